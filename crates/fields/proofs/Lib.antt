pub mod BinaryProducts
