mod Keeps
mod Passing
mod Closes
mod Fitting
mod Asks
mod Tells
