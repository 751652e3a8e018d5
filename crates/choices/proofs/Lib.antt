mod Firsts
mod Highest
