mod InPieces
