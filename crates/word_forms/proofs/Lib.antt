mod Parts
mod Named
