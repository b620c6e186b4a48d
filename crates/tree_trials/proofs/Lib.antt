mod Numbers
mod Seats
