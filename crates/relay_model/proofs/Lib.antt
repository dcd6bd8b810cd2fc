mod Cuts
mod HeldFrames
mod CutFrames
mod GivenLoads
mod Lossy
mod LossyLines
