-- What the steps of a report tell of it. Assumes nothing.
use Rattle.std.proofs.Common.{◌≡◌, ℕ, ◌<◌, ◌≤◌, Bool, true, false, cond, ltb, List, ◌++◌, length, take, drop, IfOk, MatchResult, Ok, Err, Option, Result, String, string_bytes, sym, refl, ap, ◌∙◌, subst}
use Rattle.std.specs.Global.{Global}
use Rattle.std.specs.declared.alloc.AllocError.{AllocError}
use Rattle.std.proofs.lemmas.List.{take_at, length-map}
use Rattle.std.proofs.lemmas.Bool.{ltb-true, ltb-false, cond-false}
use Rattle.rows.specs.declared.row.Row.{Row as Stored}
use Rattle.rows.specs.Rows.{row_of, rows_of}
use Rattle.rows.specs.Sorts.{kept}
use Rattle.trees.specs.declared.entry.Entry.{Entry}
use Rattle.trees.specs.declared.fault.Fault.{Fault}
use Rattle.trees.specs.declared.fault.Fault.TheVariants.{ShortBuffer}
use Rattle.trees.specs.Entries.{Row}
use Rattle.trees.specs.Buffers.{fitted, put_front}
use Rattle.listing.specs.Lines.{listing}
use Rattle.marks.specs.Marks.{MarkRow, merged}
use Rattle.layer_fields.specs.declared.fault.LayerFault.{LayerFault}
use Rattle.manifests.specs.declared.fault.ManifestFault.{ManifestFault}
use Rattle.manifests.specs.Manifests.{indexed}
use Rattle.base.specs.declared.Manifest.{Manifest}
use Rattle.base.specs.Loads.{Refused}
use Rattle.manifests.proofs.Limits.{index_then_load}
use Rattle.reports.specs.declared.refusal.Reason.{Reason}
use Rattle.reports.specs.declared.refusal.Reason.TheVariants.{Tree}
use Rattle.reports.specs.Refusals.{list_name, subject, refusal}
use Rattle.reports.specs.Reports.{Report, layer_in, Lists, Refuses, TellsLaid, Tells, Reports}

-- ---- a listing: `short` is the test that refuses the buffer

answered : (short : Bool) (len all : ℕ) → ◌≡◌ {A = Result ℕ Fault} (Ok len) (cond short (Err ShortBuffer) (Ok all)) → (short ≡ false) × (all ≡ len)
answered true len all h = (cc, cc)
answered false len all h = (refl, cc)

denied : (short : Bool) (f : Fault) (all : ℕ) → ◌≡◌ {A = Result ℕ Fault} (Err f) (cond short (Err ShortBuffer) (Ok all)) → (short ≡ true) × (f ≡ ShortBuffer)
denied true f all h = (refl, cc)
denied false f all h = (cc, cc)

-- the front of the buffer is the text: `new` is what it holds, and `held` what the `Vec` holds
pub listed : (text old new held cut : List ℕ) (room len : ℕ) → length old ≡ room → Ok len ≡ fitted text (length old) → new ≡ put_front text old → held ≡ new → cut ≡ take len held → (length text ≤ room) × (cut ≡ text)
listed text old new held cut room len many answer after same is =
    let fits = answered (ltb (length old) (length text)) len (length text) answer in
    let all = after ∙ cond-false (ltb (length old) (length text)) old (text ++ drop (length text) old) fits.0 in
    (subst (λ (n : ℕ). length text ≤ n) many (ltb-false (length old) (length text) fits.0), is ∙ ap (take len) (same ∙ all) ∙ take_at text (drop (length text) old) len fits.1)

-- a buffer of 65,536 bytes is refused
pub unlisted : (rows : List Row) (room : ℕ) (f : Fault) (said : String Global) → room ≡ 65536 → Err f ≡ fitted (listing rows) room → string_bytes said ≡ refusal list_name (Tree f) → Lists rows (Err said)
unlisted rows room f said many answer is =
    let no = denied (ltb room (length (listing rows))) f (length (listing rows)) answer in
    (subst (λ (n : ℕ). n < length (listing rows)) many (ltb-true room (length (listing rows)) no.0), is ∙ ap (λ (g : Fault). refusal list_name (Tree g)) no.1)

-- ---- a pile, whose base has the rows `held` and whose layer has the marks m

pub listed-pile : (base : List ℕ) (top : Option (List ℕ)) (given : ℕ) (held : List Row) (m : List MarkRow) (r : Result Report AllocError) → given ≡ 1024 → indexed given base ≡ Ok held → layer_in top ≡ Ok m → IfOk r (λ o. Lists (merged m held) o) → IfOk r (λ o. Reports base top o)
listed-pile base top given held m r many is laid told =
    let at : indexed 1024 base ≡ Ok held = ap (λ (n : ℕ). indexed n base) (sym many) ∙ is in
    subst (λ (t : Result (List Row) ManifestFault). IfOk r (λ o. Tells t top o)) (sym at) (subst (λ (t : Result (List MarkRow) LayerFault). IfOk r (λ o. TellsLaid held t o)) (sym laid) told)

-- the line of what refuses it
pub refused-pile : (base : List ℕ) (top : Option (List ℕ)) (given : ℕ) (why : Reason) (said : String Global) → given ≡ 1024 → Refuses (indexed given base) (layer_in top) why → string_bytes said ≡ refusal (subject why) why → Reports base top (Err said)
refused-pile base top given why said many denies is = go (indexed 1024 base) (subst (λ (n : ℕ). Refuses (indexed n base) (layer_in top) why) many denies) where
  laid : (rows : List Row) (l : Result (List MarkRow) LayerFault) → Refuses (Ok rows) l why → TellsLaid rows l (Err said)
  laid rows (Ok m) d = absurd d
  laid rows (Err f) d = is ∙ ap (λ (w : Reason). refusal (subject w) w) d

  go : (t : Result (List Row) ManifestFault) → Refuses t (layer_in top) why → Tells t top (Err said)
  go (Err f) d = is ∙ ap (λ (w : Reason). refusal (subject w) w) d
  go (Ok rows) d = laid rows (layer_in top) d

-- the rows that the index has just written are not refused
pub loads : (base : List ℕ) (given : ℕ) (rows part : List (Stored Entry)) (f : ManifestFault) → indexed given base ≡ Ok (rows_of rows) → part ≡ rows → Refused (rows_of part) (indexed (length part) base) f → ⊥
loads base given rows part f is same why =
    let again = ap (λ (n : ℕ). indexed n base) (sym (length-map rows row_of)) ∙ (index_then_load given base (rows_of rows) is).2 in
    let denies = subst (λ (p : List (Stored Entry)). Refused (rows_of p) (indexed (length p) base) f) same why in
    (subst (λ (t : Result (List Row) ManifestFault). Refused (rows_of rows) t f) again denies).1 refl

-- and the tree over them is that of the text
pub reads : (base : List ℕ) (given : ℕ) (part : List (Stored Entry)) (r : Result Manifest ManifestFault) → indexed given base ≡ Ok (rows_of part) → MatchResult r (λ m. (indexed (length part) base ≡ Ok (rows_of part)) × (kept m.rows ≡ rows_of part)) (λ f. Refused (rows_of part) (indexed (length part) base) f) → MatchResult r (λ m. indexed given base ≡ Ok (kept m.rows)) (λ f. indexed given base ≡ Err f)
reads base given part (Ok m) is ok = is ∙ ap Ok (sym ok.1)
reads base given part (Err f) is why = elim (loads base given part part f is refl why) [ ]
