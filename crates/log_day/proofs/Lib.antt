-- Laws of what is written for what is read.
mod Answering
