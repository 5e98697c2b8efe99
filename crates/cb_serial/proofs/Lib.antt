-- ListedSums: the sums of a product with a vector, in a list.
mod ListedSums
