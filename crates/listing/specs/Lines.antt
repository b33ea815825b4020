-- The listing of a tree: an mtree text, one line a path. Assumes nothing.
use Rattle.std.specs.Prelude.{ℕ, zero, suc, ◌+◌, ◌/◌, ◌%◌, cond, List, [], ◌∷◌, ◌++◌, decimal, nat_lt}
use Rattle.paths.specs.Names.{join}
use Rattle.words.specs.Printable.{printable}
use Rattle.rows.specs.Maps.{Names}
use Rattle.trees.specs.declared.entry.Entry.{Entry}
use Rattle.trees.specs.declared.entry.Entry.TheVariants.{File, Dir}
use Rattle.trees.specs.Entries.{Row}

-- a byte that does not stand for itself is a backslash and three octal digits
abbrev pub escape : ℕ → List ℕ
escape b = cond (printable b) (b ∷ []) (92 ∷ (48 + b / 64) ∷ (48 + b / 8 % 8) ∷ (48 + b % 8) ∷ [])

abbrev pub escaped : List ℕ → List ℕ
escaped [] = []
escaped (b ∷ bs) = escape b ++ escaped bs

-- `.` for the root, else `./` and the path
abbrev pub dotted : List ℕ → List ℕ
dotted [] = 46 ∷ []
dotted (b ∷ bs) = 46 ∷ 47 ∷ escaped (b ∷ bs)

-- `0` to `9`, then `a` to `f`
abbrev pub digit : ℕ → ℕ
digit d = cond (nat_lt d 10) (48 + d) (87 + d)

-- the last k digits of n in base b
unfoldable pub digits : ℕ → ℕ → ℕ → List ℕ
digits b zero n = []
digits b (suc k) n = digits b k (n / b) ++ digit (n % b) ∷ []

-- ` type=dir mode=`
abbrev pub type_dir : List ℕ
type_dir = 32 ∷ 116 ∷ 121 ∷ 112 ∷ 101 ∷ 61 ∷ 100 ∷ 105 ∷ 114 ∷ 32 ∷ 109 ∷ 111 ∷ 100 ∷ 101 ∷ 61 ∷ []

-- ` type=file mode=`
abbrev pub type_file : List ℕ
type_file = 32 ∷ 116 ∷ 121 ∷ 112 ∷ 101 ∷ 61 ∷ 102 ∷ 105 ∷ 108 ∷ 101 ∷ 32 ∷ 109 ∷ 111 ∷ 100 ∷ 101 ∷ 61 ∷ []

-- ` size=`
abbrev pub size_is : List ℕ
size_is = 32 ∷ 115 ∷ 105 ∷ 122 ∷ 101 ∷ 61 ∷ []

-- ` content=`
abbrev pub content_is : List ℕ
content_is = 32 ∷ 99 ∷ 111 ∷ 110 ∷ 116 ∷ 101 ∷ 110 ∷ 116 ∷ 61 ∷ []

abbrev pub file_keywords : ℕ → ℕ → ℕ → List ℕ
file_keywords m s c = type_file ++ (digits 8 4 m ++ (size_is ++ (decimal s ++ (content_is ++ digits 16 16 c))))

abbrev pub keywords : Entry → List ℕ
keywords (Dir d) = type_dir ++ digits 8 4 d.mode
keywords (File f) = file_keywords f.mode f.size f.content

abbrev pub line : Names → Entry → List ℕ
line p e = dotted (join p) ++ (keywords e ++ 10 ∷ [])

abbrev pub lines : List Row → List ℕ
lines [] = []
lines (r ∷ rs) = line r.0 r.1 ++ lines rs

-- the line `#mtree`
abbrev pub header : List ℕ
header = 35 ∷ 109 ∷ 116 ∷ 114 ∷ 101 ∷ 101 ∷ 10 ∷ []

-- that line, and a line for each entry
abbrev pub listing : List Row → List ℕ
listing rs = header ++ lines rs
