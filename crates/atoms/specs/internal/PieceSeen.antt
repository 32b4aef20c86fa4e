-- What the code has of a piece of a string.
use Rattle.std.specs.Prelude.{ℕ, ◌+◌, cond, Option, Some, None, [], length, get_or}
use Rattle.syntax.specs.rules.Syntax.{Piece, is_piece, piece_before, piece_value}
use Rattle.atoms.specs.declared.pieces.PieceSeen.{PieceSeen}

-- The place after it, how many bytes it stands for, and the first three; nothing for what is no piece.
unfoldable pub piece_stands : ℕ → Piece → PieceSeen
piece_stands place p =
    record {
      next = place + length (piece_before p []);
      size = length (piece_value p);
      first = get_or (piece_value p) 0 0;
      second = get_or (piece_value p) 1 0;
      third = get_or (piece_value p) 2 0;
    }

unfoldable pub piece_seen : ℕ → Piece → Option PieceSeen
piece_seen place p = cond (is_piece p) (Some (piece_stands place p)) None
