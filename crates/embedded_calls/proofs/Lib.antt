mod ItemsFit
mod CallAccepted
mod BodiesFit
mod Evaluated
