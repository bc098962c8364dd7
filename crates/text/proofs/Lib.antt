mod Digits
mod Figures
mod Lengths
mod Words
mod Lending
mod Numerals
mod Example
mod Faithful
