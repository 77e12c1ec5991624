mod FunctionParts
mod LocalLists
mod Unbroken
