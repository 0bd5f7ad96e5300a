pub mod TileCounting
