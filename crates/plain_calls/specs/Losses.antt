-- Counting the levels that a delete empties, in the form in which the code has the premises. Assumes nothing.
use Rattle.std.specs.Prelude.{ℕ, zero, suc, ◌+◌, ◌-◌, ◌<◌, Bool, true, false, ◌≡◌, refl, List, [], ◌∷◌, eqb, Option, None, Some, is_none}
use Rattle.std.proofs.Math.Path.{sym, ap}
use Rattle.std.proofs.Common.{◌∙◌, length-append, arith, add-one, sub-one}
use Rattle.std.proofs.lemmas.Bool.{eqb-true, eq-eqb, false≢true}
use Rattle.std.proofs.Math.ListN.{length}
use Rattle.geometry.specs.declared.Geometry.{Geometry}
use Rattle.geometry.specs.declared.Entry.{Entry}
use Rattle.geometry.specs.Tests.{bit, pick}
use Rattle.model.specs.Bytes.{node_at, node_count}
use Rattle.model.specs.Count.{count}
use Rattle.model.specs.Image.{Nodes}
use Rattle.model.specs.Tree.{entry_of, place, chosen, leaf, find, find_in}
use Rattle.model.specs.Edit.{swap, splice, edited, on_path, remove, remove_in, kept}
use Rattle.model.specs.Halving.{place_is}
use Rattle.model.specs.Update.{delete_list}
use Rattle.model.specs.Plain.{none_left, emptied}
use Rattle.theory_counts.specs.Tally.{count_same}
use Rattle.chip_read.specs.Chip.{chip_with}
use Rattle.chip_read.specs.Node.{node_length}
use Rattle.tree_path.specs.Paths.{path_top, path_below}
use Rattle.plain_calls.specs.declared.Loss.{Loss}
use Rattle.plain_calls.specs.Counts.{less_of, emptied_below, Loses, idle_loss, LosesSome, Sheds, ShedsSome}

-- ---- a node whose entry gives way to a list
swap_length : (f : Entry → List Entry) (i : ℕ) (es : List Entry) → i < length es
    → length (swap f i es) ≡ length es - 1 + length (f (entry_of es i))
swap_length f i [] h = absurd (omega arith)
swap_length f zero (e ∷ es) h = let w = length-append (f e) es in omega (arith, w)
swap_length f (suc i) (e ∷ es) h = let w = swap_length f i es (omega arith) in omega (arith, w)

splice_length : (f : Entry → List Entry) (k : ℕ) (es : List Entry) → 0 < length es
    → length (splice f k es) ≡ length es - 1 + length (f (chosen k es))
unfolding splice chosen
splice_length f k es n = swap_length f (place k es) es (place_is k es n).inside

splice_none : (f : Entry → List Entry) (k : ℕ) (es : List Entry) → length (f (chosen k es)) ≡ 0
    → length (splice f k es) ≡ length es - 1
unfolding splice
splice_none f k [] z = refl
splice_none f k (e ∷ es) z = let w = splice_length f k (e ∷ es) (omega arith) in omega (arith, w, z)

splice_one : (f : Entry → List Entry) (k : ℕ) (es : List Entry) → length (f (chosen k es)) ≡ 1
    → length (splice f k es) ≡ length es
unfolding splice
splice_one f k [] z = refl
splice_one f k (e ∷ es) z = let w = splice_length f k (e ∷ es) (omega arith) in omega (arith, w, z)

-- ---- the leaf: it loses K, where K stands there
one_there : (k a : ℕ) (x : Entry) (t : Bool) → eqb x.key k ≡ t → find k (x ∷ []) ≡ Some a
    → length (remove k (x ∷ [])) ≡ 0
unfolding find
one_there k a x true e h = rw e
one_there k a x false e h = let z : ◌≡◌ {A = ℕ} 0 1 = cc in absurd (omega arith)

one_missing : (k : ℕ) (x : Entry) (t : Bool) → eqb x.key k ≡ t → find k (x ∷ []) ≡ None → length (remove k (x ∷ []))
    ≡ 1
unfolding find
one_missing k x true e h = let z : ◌≡◌ {A = ℕ} 0 1 = cc in absurd (omega arith)
one_missing k x false e h = rw e

remove_there : (k a : ℕ) (es : List Entry) → find_in k es ≡ Some a → length (remove_in k es) ≡ length es - 1
unfolding find_in remove_in splice
remove_there k a [] h = refl
remove_there k a (e ∷ es) h = let x = chosen k (e ∷ es) in
    splice_none (λ y. remove k (y ∷ [])) k (e ∷ es) (one_there k a x (eqb x.key k) refl h)

remove_missing : (k : ℕ) (es : List Entry) → find_in k es ≡ None → length (remove_in k es) ≡ length es
unfolding find_in remove_in splice
remove_missing k [] h = refl
remove_missing k (e ∷ es) h = let x = chosen k (e ∷ es) in
    splice_one (λ y. remove k (y ∷ [])) k (e ∷ es) (one_missing k x (eqb x.key k) refl h)

pub less_none : (n : ℕ) → n ≡ 0 → 0 ≡ n - 1
less_none n h = omega arith

module _ (g : Geometry) (img : List ℕ) (k : ℕ) (e : Entry) (f : Option ℕ) (ef : f ≡ find_in k
    (node_at g img e.addr 1)) (n : ℕ)
    (en : n ≡ node_count g img e.addr 1) where
  pub leaf_there : (m a : ℕ) → m ≡ n - 1 → f ≡ Some a → Loses g img k 0 e false
      (record { emptied = 0; left = m })
  unfolding leaf edited count
  leaf_there m a em q =
      let there : find_in k (node_at g img e.addr 1) ≡ Some a = sym ef ∙ rw q in
      record {
        absent = rw there;
        emptied = refl;
        left = em ∙ sym (remove_there k a (node_at g img e.addr 1) there ∙ rw (node_length, en));
        few = omega arith;
      }

  pub leaf_missing : f ≡ None → Loses g img k 0 e true (record { emptied = 0; left = n })
  unfolding leaf edited count
  leaf_missing q =
      let missing : find_in k (node_at g img e.addr 1) ≡ None = sym ef ∙ rw q in
      record {
        absent = rw missing;
        emptied = refl;
        left = sym (remove_missing k (node_at g img e.addr 1) missing ∙ rw (node_length, en));
        few = omega arith;
      }

  pub leaf_none : f ≡ None → LosesSome g img k 0 e None
  unfolding idle_loss
  leaf_none q = rw (en, ← node_length g img e.addr 1) at leaf_missing q

-- ---- a node above level 1: it loses an entry where the one below is emptied
none_kept : (c : List Entry) → length c ≡ 0 → (none_left c ≡ true) × ((l : ℕ) (e : Entry) → length (kept 0 l e c) ≡ 0)
none_kept [] h = (refl, λ l e. refl)
none_kept (x ∷ c) h = absurd (omega arith)

some_kept : (c : List Entry) → (length c ≡ 0 → ⊥) → (none_left c ≡ false) ×
    ((l : ℕ) (e : Entry) → length (kept 0 l e c) ≡ 1)
some_kept [] h = absurd (h refl)
some_kept (x ∷ c) h = (refl, λ l e. refl)

module _ (r : Nodes) (k l : ℕ) (e : Entry) where
  -- the entry taken, and what is left of the node that it names
  abbrev taken : Entry
  taken = chosen k (r e.addr (suc (suc l)))

  abbrev below : List Entry
  below = less_of r k l taken

  emptied_below_lem : emptied_below r k (suc l) e ≡ bit (none_left below) + emptied_below r k l taken
  unfolding count
  emptied_below_lem =
      let top : on_path r k (remove_in k) (kept 0) (suc l) e (suc l) ≡ below =
      path_below r k (remove_in k) (kept 0) l e (suc l) (omega arith) ∙ path_top r k (remove_in k) (kept 0) l taken in
      let rest : count l (λ j. none_left (on_path r k (remove_in k) (kept 0) (suc l) e (suc j))) ≡ emptied_below r k l taken =
      count_same _ _ l (λ j h. ap none_left (path_below r k (remove_in k) (kept 0) l e (suc j) (omega arith))) in
      rw (top, rest)

  left_one : length below ≡ 0 → length (less_of r k (suc l) e) ≡ length (r e.addr (suc (suc l))) - 1
  unfolding edited
  left_one h = splice_none (λ x. kept 0 (suc l) x (edited r k (remove_in k) (kept 0) l x)) k (r e.addr (suc (suc l))) ((none_kept below h).1 (suc l) taken)

  left_all : (length below ≡ 0 → ⊥) → length (less_of r k (suc l) e) ≡ length (r e.addr (suc (suc l)))
  unfolding edited
  left_all h = splice_one (λ x. kept 0 (suc l) x (edited r k (remove_in k) (kept 0) l x)) k (r e.addr (suc (suc l))) ((some_kept below h).1 (suc l) taken)

module _ (g : Geometry) (img : List ℕ) (k : ℕ) (e x : Entry) (a : Bool) (r : Loss) where
  one_level : (l n : ℕ) → Loses g img k l x a r → x ≡ chosen k (node_at g img e.addr (suc (suc l)))
      → n ≡ node_count g img e.addr (suc (suc l))
      → (r.left ≡ 0 → Loses g img k (suc l) e a (record { emptied = r.emptied + 1; left = n - 1 }))
      × ((r.left ≡ 0 → ⊥) → Loses g img k (suc l) e a (record { emptied = r.emptied; left = n }))
  unfolding leaf
  one_level l n c ex en =
      let w : Loses g img k l (chosen k (node_at g img e.addr (suc (suc l)))) a r = rw (← ex) c in
      let size : length (node_at g img e.addr (suc (suc l))) ≡ n = node_length g img e.addr (suc (suc l))
      ∙ sym en in (
        λ z.
            let empty : length (below (node_at g img) k l e) ≡ 0 = sym w.left ∙ z in
            record {
              absent = w.absent;
              emptied = sym (emptied_below_lem (node_at g img) k l e ∙ rw ((none_kept _ empty).0, ← w.emptied) (omega arith));
              left = sym (left_one (node_at g img) k l e empty ∙ rw size);
              few = omega (arith, w.few);
            },
        λ z.
            let some_left : length (below (node_at g img) k l e) ≡ 0 → ⊥ = λ h. z (w.left ∙ h) in
            record {
              absent = w.absent;
              emptied = sym (emptied_below_lem (node_at g img) k l e
                  ∙ rw ((some_kept _ some_left).0, ← w.emptied) (omega arith));
              left = sym (left_all (node_at g img) k l e some_left ∙ size);
              few = omega (arith, w.few);
            },
      )

  pub loss_emptied : (l n m : ℕ) → Loses g img k (l - 1) x a r → x ≡ chosen k (node_at g img e.addr (l + 1))
      → n ≡ node_count g img e.addr (l + 1)
      → m ≡ n - 1 → r.left ≡ 0 → (l ≡ 0 → ⊥) → Loses g img k l e a
      (record { emptied = r.emptied + 1; left = m })
  loss_emptied zero n m c ex en em z h = absurd (h refl)
  loss_emptied (suc l) n m c ex en em z h =
      rw em ((one_level l n (rw sub-one at c) (rw add-one at ex) (rw add-one at en)).0 z)

  pub loss_kept : (l n : ℕ) → Loses g img k (l - 1) x a r → x ≡ chosen k (node_at g img e.addr (l + 1))
      → n ≡ node_count g img e.addr (l + 1)
      → (r.left ≡ 0 → ⊥) → (l ≡ 0 → ⊥) → Loses g img k l e a
      (record { emptied = r.emptied; left = n })
  loss_kept zero n c ex en z h = absurd (h refl)
  loss_kept (suc l) n c ex en z h = (one_level l n (rw sub-one at c) (rw add-one at ex) (rw add-one at en)).1 z

-- where the key is absent below, it is absent here
pub loss_missing : (g : Geometry) (img : List ℕ) (k l : ℕ) (e x : Entry)
    → true ≡ is_none (find_in k (leaf (node_at g img) k (l - 1) x)) → x ≡ chosen k (node_at g img e.addr (l + 1))
    → (l ≡ 0 → ⊥) → true ≡ is_none (find_in k (leaf (node_at g img) k l e))
unfolding leaf
loss_missing g img k zero e x h ex z = absurd (z refl)
loss_missing g img k (suc l) e x h ex z = rw sub-one at h ∙ rw (ex, add-one)

-- where it is absent below, what is counted here follows from what is counted there
idle_step : (g : Geometry) (img : List ℕ) (k l n : ℕ) (e : Entry) (r : Loss) (t : Bool) → eqb r.left 0 ≡ t
    → (r.left ≡ 0 → Loses g img k l e true (record { emptied = r.emptied + 1; left = n - 1 }))
    → ((r.left ≡ 0 → ⊥) → Loses g img k l e true (record { emptied = r.emptied; left = n }))
    → Loses g img k l e true (pick t (record { emptied = r.emptied + 1; left = n - 1 })
    (record { emptied = r.emptied; left = n }))
idle_step g img k l n e r true q h w = h (eqb-true r.left 0 q)
idle_step g img k l n e r false q h w = w (λ z. false≢true (sym q ∙ eq-eqb r.left 0 z))

pub loss_none : (g : Geometry) (img : List ℕ) (k l : ℕ) (e x : Entry) → LosesSome g img k (l - 1) x None
    → x ≡ chosen k (node_at g img e.addr (l + 1)) → (l ≡ 0 → ⊥) → LosesSome g img k l e None
unfolding idle_loss
loss_none g img k zero e x c ex z = absurd (z refl)
loss_none g img k (suc l) e x c ex z =
    let y = chosen k (node_at g img e.addr (suc (suc l))) in
    let there : Loses g img k l y true (idle_loss (node_at g img) k l y) = rw (ex, add-one) at (rw sub-one at c) in
    let r = idle_loss (node_at g img) k l y in
    let here = one_level g img k e y true r l (length (node_at g img e.addr (suc (suc l)))) there refl
    (node_length g img e.addr (suc (suc l))) in
    idle_step g img k (suc l) (length (node_at g img e.addr (suc (suc l)))) e r (eqb r.left 0) refl here.0 here.1

pub loss_at : (g : Geometry) (img : List ℕ) (k l : ℕ) (e : Entry) (a : Bool) (r : Loss) → Loses g img k 0 e a r → l ≡ 0
    → Loses g img k l e a r
loss_at g img k l e a r c h = rw h c

pub loss_leaf : (g : Geometry) (img : List ℕ) (k l : ℕ) (e : Entry) (r : Option Loss) → LosesSome g img k 0 e r → l ≡ 0
    → LosesSome g img k l e r
loss_leaf g img k l e r c h = rw h c

-- ---- the root
pub root_sheds : (g : Geometry) (img : List ℕ) (l p k : ℕ) (a : Bool) (r : Loss)
    → Loses g img k l (record { key = 0; addr = p }) a r → Sheds (chip_with g img l p) k a r
unfolding emptied delete_list
root_sheds g img l p k a r c = record {
  absent = c.absent;
  emptied = c.emptied;
  left = c.left ∙ ap length (sym (path_top (node_at g img) k (remove_in k) (kept 0) l (record { key = 0; addr = p })));
  few = c.few;
}

pub sheds : (g : Geometry) (img : List ℕ) (l p k : ℕ) (r : Option Loss)
    → LosesSome g img k l (record { key = 0; addr = p }) r → ShedsSome (chip_with g img l p) k r
sheds g img l p k None c = root_sheds g img l p k true _ c
sheds g img l p k (Some r) c = root_sheds g img l p k false r c

pub ruleset loss_laws = (less_none, leaf_there, leaf_none, loss_leaf, loss_emptied, loss_kept, loss_none, sheds)
