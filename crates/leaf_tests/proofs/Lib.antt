mod Tally
