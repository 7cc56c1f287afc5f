-- `splice`, `put_in` and `remove_in` by the place at which they change a node. Assumes nothing.
use Rattle.std.specs.Prelude.{ℕ, suc, ◌<◌, ◌≤◌, Bool, ◌≡◌, refl, ltb, set}
use Rattle.std.proofs.Math.Bool.{true, false}
use Rattle.std.proofs.lemmas.Bool.{false≢true}
use Rattle.std.proofs.Math.Path.{sym, ap}
use Rattle.std.proofs.Common.{◌∙◌, take-suc, drop-cons, arith, add-one}
use mathlib.Core.List.{List, [], ◌∷◌, ◌++◌}
use Rattle.std.proofs.Math.ListN.{take, drop, length}
use Rattle.std.proofs.Math.Seq.{split_at, append_snoc}
use Rattle.std.proofs.lemmas.List.{set_split}
use borrow.Author.Tests.{lt-ltb, le-ltb, eq-eqb, ne_eqb, ltb-true, ltb-false}
use Rattle.geometry.specs.declared.Entry.{Entry}
use Rattle.geometry.specs.Tests.{pick}
use Rattle.model.specs.Tree.{entry_of, place, chosen}
use Rattle.model.specs.Edit.{splice, put, put_in, remove, remove_in}
use Rattle.model.specs.Halving.{place_is, swap_cut}
use Rattle.tree_search.specs.Search.{ahead, holds}
use Rattle.tree_search.specs.Places.{held}
use Rattle.theory_lists.specs.Places.{insert_at, remove_at}
use Rattle.tree_node.specs.Node.{replace_by}
use Rattle.tree_node.specs.Changes.{no_entry}

-- splice is a replacement at the place that descent takes
pub splice_is : (f : Entry → List Entry) (k : ℕ) (es : List Entry) → splice f k es ≡ replace_by (place k es)
    (f (chosen k es)) es
unfolding splice chosen replace_by
splice_is f k [] = refl
splice_is f k (e ∷ es) = swap_cut f (place k (e ∷ es)) (e ∷ es) (place_is k (e ∷ es) (omega arith)).inside

-- put at one entry
module _ (k a : ℕ) (x : Entry) where
  one_below : x.key < k → put k a (x ∷ []) ≡ x ∷ record { key = k; addr = a } ∷ []
  one_below h = rw (lt-ltb _ _ h)

  one_same : x.key ≡ k → put k a (x ∷ []) ≡ record { key = k; addr = a } ∷ []
  one_same h = rw (le-ltb x.key k (omega (arith, h)), eq-eqb _ _ h)

  one_above : k ≤ x.key → (x.key ≡ k → ⊥) → put k a (x ∷ []) ≡ record { key = k; addr = a } ∷ x ∷ []
  one_above h g = rw (le-ltb x.key k h, ne_eqb _ _ g)

module _ (k : ℕ) (es : List Entry) (n : 0 < length es) where
  -- the node, cut at the place
  cut : es ≡ take (place k es) es ++ (chosen k es ∷ drop (suc (place k es)) es)
  unfolding chosen
  cut = split_at es (place k es) no_entry (place_is k es n).inside

  pub remove_in_lem : holds k es ≡ true → remove_in k es ≡ remove_at (ahead k es) es
  unfolding remove_in splice chosen remove_at
  remove_in_lem q =
      let w = held k es q in
      swap_cut (λ x. remove k (x ∷ [])) (place k es) es (place_is k es n).inside
      ∙ rw (w.2, eq-eqb _ _ w.1, add-one)

  remove_other : ((chosen k es).key ≡ k → ⊥) → remove_in k es ≡ es
  unfolding remove_in splice chosen
  remove_other q = swap_cut (λ x. remove k (x ∷ [])) (place k es) es (place_is k es n).inside
      ∙ rw (ne_eqb _ _ q) (sym cut)

  module _ (a : ℕ) where
    put_at : put_in k a es ≡ take (place k es) es ++ (put k a (chosen k es ∷ []) ++ drop (suc (place k es)) es)
    unfolding put_in splice chosen
    put_at = go es n
      where
        go : (l : List Entry) → 0 < length l → put_in k a l ≡ take (place k l) l ++ (put k a
            (entry_of l (place k l) ∷ []) ++ drop (suc (place k l)) l)
        go [] m = absurd (omega arith)
        go (e ∷ l) m = swap_cut (λ x. put k a (x ∷ [])) (place k (e ∷ l)) (e ∷ l) (place_is k (e ∷ l) m).inside

    put_by : (l : List Entry) → put k a (chosen k es ∷ []) ≡ l
        → put_in k a es ≡ take (place k es) es ++ (l ++ drop (suc (place k es)) es)
    put_by l e = put_at ∙ ap (λ (m : List Entry). take (place k es) es ++ (m ++ drop (suc (place k es)) es)) e

    abbrev new : Entry
    new = record { key = k; addr = a }

    pub put_over : holds k es ≡ true → put_in k a es ≡ set es (ahead k es) new
    put_over q =
        let w = held k es q in
        put_by (new ∷ []) (one_same k a (chosen k es) w.1)
        ∙ rw w.2 (sym (set_split es (place k es) new (place_is k es n).inside))

    into : (t : Bool) → ltb (chosen k es).key k ≡ t → ((chosen k es).key ≡ k → ⊥)
        → put_in k a es ≡ insert_at (pick t (suc (place k es)) (place k es)) new es
    unfolding chosen insert_at
    into true e q =
        put_by (chosen k es ∷ new ∷ []) (one_below k a (chosen k es) (ltb-true _ _ e))
        ∙ sym (rw (take-suc es (place k es) no_entry (place_is k es n).inside) (append_snoc (take (place k es) es) (chosen k es)
        (new ∷ drop (suc (place k es)) es)))
    into false e q =
        put_by (new ∷ chosen k es ∷ []) (one_above k a (chosen k es) (ltb-false _ _ e) q)
        ∙ ap (λ (l : List Entry). take (place k es) es ++ (new ∷ l)) (sym (drop-cons es (place k es) no_entry (place_is k es n).inside))

pub put_in_lem : (k a : ℕ) (es : List Entry) → holds k es ≡ false → put_in k a es ≡ insert_at (ahead k es)
    (record { key = k; addr = a }) es
unfolding put_in ahead holds insert_at
put_in_lem k a [] q = refl
put_in_lem k a (e ∷ es) q =
    into k (e ∷ es) (omega arith) a (ltb (chosen k (e ∷ es)).key k) refl (λ z. false≢true (sym q ∙ eq-eqb _ _ z))

pub remove_out : (k : ℕ) (es : List Entry) → holds k es ≡ false → remove_in k es ≡ es
unfolding remove_in splice holds
remove_out k [] q = refl
remove_out k (e ∷ es) q = remove_other k (e ∷ es) (omega arith) (λ z. false≢true (sym q ∙ eq-eqb _ _ z))
