use Rattle.std.proofs.Common.{◌≡◌, ℕ, List, [], ◌∷◌, ◌++◌, length, sym, refl, ap, ◌∙◌, append_assoc, rules, arith}
use Rattle.paths.specs.Names.{split, join}
use Rattle.paths.specs.Paths.{text}
use Rattle.paths.proofs.Joins.{join-child}
use Rattle.layer_fields.specs.Texts.{opaque_name}
use Rattle.layer_files.proofs.pieces.marker_text.Goals as goal
use Rattle.layer_files.proofs.pieces.marker_text.Goals.{then-not-is_empty, else-not-is_empty}

-- in the root the name stands alone
bare : (s name : List ℕ) → length s ≡ 0 → s ++ name ≡ join (split s ++ name ∷ [])
bare [] name h = refl
bare (b ∷ bs) name h = absurd (omega arith)

pub returns : goal.returns
returns c =
    let s = text c.args.path.now in
    let path = c.push_bytes.ensures ∙ (λ i. c.new-text.ensures i ++ c.as_bytes-path.ensures i) in
    elim c.if-not-is_empty.branch [
      | then-not-is_empty w ↦
          let front = ap (λ t. t.items) w.text-is ∙ w.push.ensures.items ∙ ap (λ z. z ++ 47 ∷ []) path in
          c.push_bytes-2.ensures ∙ ap (λ z. z ++ opaque_name) front ∙ append_assoc s (47 ∷ []) opaque_name ∙ sym (join-child s opaque_name (search rules))
      | else-not-is_empty w ↦
          c.push_bytes-2.ensures ∙ ap (λ z. z ++ opaque_name) (ap (λ t. t.items) w.text-is ∙ path) ∙ bare s opaque_name (search rules)
    ]
