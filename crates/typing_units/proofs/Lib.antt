mod ItemParts
mod Unbroken
mod Walked
