mod Lists
mod Ends
mod Slots
mod Adding
mod Telling
mod Making
