mod Places
mod Cutting
mod Members
