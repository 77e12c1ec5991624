mod Agreeing
mod Told
