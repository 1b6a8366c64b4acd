mod Cells
mod Firsts
mod Kept_columns
mod Most
mod Parts
mod Pieces
mod Sheets
mod Tables
mod Worded
pub mod Common
