mod AskedAbove
