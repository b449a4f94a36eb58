mod Handing
mod Preparing
