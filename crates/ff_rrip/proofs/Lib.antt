mod Olders
mod Raised
mod Victims
