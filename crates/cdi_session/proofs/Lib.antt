mod CommandFacts
mod Refusals
