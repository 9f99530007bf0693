mod Named
mod Printing
