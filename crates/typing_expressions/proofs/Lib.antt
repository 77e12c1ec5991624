mod Agreeing
mod NeededSizes
mod Telling
