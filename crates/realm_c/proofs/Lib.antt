mod Auditing
mod Handing
