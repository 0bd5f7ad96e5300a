pub mod TileCountingLemmas
