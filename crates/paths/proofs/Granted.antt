-- What the answer of steps says of each step. Assumes nothing.
use Rattle.std.proofs.Common.{◌≡◌, Bool, true, false, cond, is_some, Some, None, Ok, Err, Option, Result, refl, ap}
use Rattle.std.specs.Option.{option_map}
use Rattle.paths.specs.Steps.{and_then, and_then_some, map_err}

pub then_ok : {A B E : Type 0} (r : Result A E) (go : A → Result B E) (b : B) → and_then r go ≡ Ok b → (a : A) × (r ≡ Ok a) × (go a ≡ Ok b)
then_ok (Ok a) go b h = (a, refl, h)
then_ok (Err e) go b h = cc

pub then_some : {A B : Type 0} (o : Option A) (go : A → Option B) (b : B) → and_then_some o go ≡ Some b → (a : A) × (o ≡ Some a) × (go a ≡ Some b)
then_some None go b h = cc
then_some (Some a) go b h = (a, refl, h)

pub if_ok : {A E : Type 0} (t : Bool) (r : Result A E) (e : E) (a : A) → cond t r (Err e) ≡ Ok a → (t ≡ true) × (r ≡ Ok a)
if_ok true r e a h = (refl, h)
if_ok false r e a h = cc

pub if_some : {A : Type 0} (t : Bool) (o : Option A) (a : A) → cond t o None ≡ Some a → (t ≡ true) × (o ≡ Some a)
if_some true o a h = (refl, h)
if_some false o a h = cc

pub is_none : {A : Type 0} (o : Option A) → is_some o ≡ false → o ≡ None
is_none None h = refl
is_none (Some a) h = cc

pub mapped_none : {A B : Type 0} (f : A → B) (o : Option A) → option_map f o ≡ None → o ≡ None
mapped_none f None h = refl
mapped_none f (Some a) h = cc

pub mapped_some : {A B : Type 0} (f : A → B) (o : Option A) (b : B) → option_map f o ≡ Some b → (a : A) × (o ≡ Some a) × (f a ≡ b)
mapped_some f None b h = cc
mapped_some f (Some a) b h = (a, refl, cc)

pub mapped_ok : {A E D : Type 0} (c : E → D) (r : Result A E) (a : A) → map_err c r ≡ Ok a → r ≡ Ok a
mapped_ok c (Ok b) a h =
    let is : b ≡ a = cc in
    ap Ok is
mapped_ok c (Err e) a h = cc
