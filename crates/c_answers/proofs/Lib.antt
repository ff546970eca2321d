mod Refusing
mod Sinks
