-- Laws on lists of pairs: `put_from i es zs`, es stored into zs one after the other from place i on, which is what `read_pairs` does, and `put_over`,
-- that from place 0 on it is `overlay`. Assumes nothing.
use Rattle.std.specs.Prelude.{ℕ, suc, ◌≡◌, List, [], ◌∷◌, set}
use Rattle.std.proofs.Common.{refl, ◌∙◌, ap}
use Rattle.geometry.specs.declared.Entry.{Entry}
use Rattle.text_reader.specs.Reader.{overlay}

abbrev pub put_from : ℕ → List Entry → List Entry → List Entry
put_from i [] zs = zs
put_from i (e ∷ es) zs = put_from (suc i) es (set zs i e)

put_suc : (es : List Entry) (i : ℕ) (x : Entry) (zs : List Entry) → put_from (suc i) es (x ∷ zs) ≡ x ∷ put_from i es zs
put_suc [] i x zs = refl
put_suc (e ∷ es) i x zs = put_suc es (suc i) x (set zs i e)

put_nil : (es : List Entry) (i : ℕ) → put_from i es [] ≡ []
put_nil [] i = refl
put_nil (e ∷ es) i = put_nil es (suc i)

pub put_over : (es zs : List Entry) → put_from 0 es zs ≡ overlay es zs
put_over [] zs = refl
put_over (e ∷ es) [] = put_nil es 1
put_over (e ∷ es) (z ∷ zs) = put_suc es 0 e zs ∙ ap (λ (r : List Entry). e ∷ r) (put_over es zs)
