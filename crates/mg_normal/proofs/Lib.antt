mod Said
mod Necessary
mod Parted
mod Ends
