mod RunEnds
