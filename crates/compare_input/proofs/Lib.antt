-- Laws of what is taken and reported.
mod Taking
