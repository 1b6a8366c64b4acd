mod Common
mod Marked
mod Named
mod Printed
mod Texts
