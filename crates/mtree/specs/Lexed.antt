-- The pieces of a text, one behind the other, and the tokens of a line. Assumes nothing.
use Rattle.std.specs.Prelude.{ℕ, ◌+◌, ◌≤◌, cond, List, [], ◌∷◌, length, drop, Some, None, Option, ◌==◌, nat_le, nat_lt}
use Rattle.std.specs.Borrow.{Bor}
use Rattle.paths.specs.Pieces.{front, pieces}
use Rattle.mtree.specs.declared.pieces.Pieces.{Pieces}
use Rattle.mtree.specs.declared.lexer.Token.{Token}
use Rattle.mtree.specs.declared.lexer.Token.TheVariants.{Word, Keyword, End}
use Rattle.mtree.specs.declared.lexer.Lexer.{Lexer}

abbrev pub tail : List (List ℕ) → List (List ℕ)
tail [] = []
tail (k ∷ ks) = ks

abbrev pub pieces_in : ℕ → Option (Bor (List ℕ)) → List (List ℕ)
pieces_in sep None = []
pieces_in sep (Some rest) = pieces sep rest.now

-- the pieces of the text that are not read yet
abbrev pub unread : Pieces → List (List ℕ)
unread p = pieces_in p.separator p.rest

-- a token: its texts, each with the position of its first byte in the line
pub data Lexeme : Type 0 where
  word : List ℕ → ℕ → Lexeme
  keyword : List ℕ → ℕ → List ℕ → ℕ → Lexeme
  end : ℕ → Lexeme

abbrev pub spelled : Token → Lexeme
spelled (Word w) = word w.text.now w.at
spelled (Keyword name value) = keyword name.text.now name.at value.text.now value.at
spelled (End at) = end at

-- a field with a `=` is a keyword: its name stands before the first, its value behind it
abbrev pub keyword_or_word : List ℕ → ℕ → Lexeme
keyword_or_word k at =
    cond (nat_lt (length (front 61 k)) (length k)) (keyword (front 61 k) at (drop (length (front 61 k) + 1) k) (at + length (front 61 k) + 1)) (word k at)

-- the first field of a line is its path word
abbrev pub field_token : List ℕ → ℕ → Lexeme
field_token k at = cond (at == 0) (word k at) (keyword_or_word k at)

-- the token at a position of the line, where a field begins; past the line, its end
abbrev pub token_at : List ℕ → ℕ → Lexeme
token_at line at = cond (nat_le at (length line)) (field_token (front 32 (drop at line)) at) (end (length line))

-- the lexer, gone past the field at its position and the space behind it
abbrev pub behind : Lexer → Lexer
behind l = cond (nat_le l.at (length l.line.now)) (record { line = l.line; at = l.at + length (front 32 (drop l.at l.line.now)) + 1 }) l

-- the fields of a line from a position on, where a field begins; past the line there are none
abbrev pub fields_from : List ℕ → ℕ → List (List ℕ)
fields_from line at = cond (nat_le at (length line)) (pieces 32 (drop at line)) []

-- the fields of the line that are not read yet
abbrev pub fields_left : Lexer → List (List ℕ)
fields_left l = fields_from l.line.now l.at

-- the path word is read
abbrev pub Begun : Lexer → Type 0
Begun l = 1 ≤ l.at
