mod Pieces
mod Takes
mod FirstPieces
mod SolidCodes
mod PrintedNotices
mod PrintedRequests
mod ShortNotices
