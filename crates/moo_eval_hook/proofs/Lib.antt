mod Evaluated
mod Fewer
mod Hooked
mod Moves
mod Passed
mod Quotas
mod Raised
mod Turning
