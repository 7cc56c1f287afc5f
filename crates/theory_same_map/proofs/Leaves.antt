-- One order on a sound image, of any tree: what an accepted order's outcome comes to, by its answer; and WORN. Assumes
-- nothing.
use Rattle.std.specs.Prelude.{◌≡◌, refl, List, [], ◌∷◌, Bool, true, false, ◌⊎◌, ℕ, ◌+◌, ◌<◌, ◌≤◌, eqb, None, Option, Some, is_none}
use Rattle.std.proofs.Common.{ap, sym, subst, ◌∙◌, inl, inr, arith, le-ltb}
use Rattle.geometry.specs.declared.Geometry.{Geometry}
use Rattle.geometry.specs.declared.Entry.{Entry}
use Rattle.geometry.specs.Tests.{pick}
use Rattle.geometry.specs.Shape.{Core}
use Rattle.model.specs.Bytes.{byte_at}
use Rattle.model.specs.Image.{blocks_of, good_length, max_seq}
use Rattle.model.specs.Tree.{find}
use Rattle.model.specs.Stores.{apply_all}
use Rattle.model.specs.Edit.{put, remove}
use Rattle.model.specs.Update.{format_stores}
use Rattle.model.specs.Calls.{Outcome, refused, made, answered, format, worn}
use Rattle.log_lines.specs.declared.Order.{Order}
use Rattle.log_lines.specs.declared.Order.TheVariants.{Format, Insert, Delete, Lookup, Limited}
use Rattle.theory_counts.specs.Cases.{true_false}
use Rattle.theory_lists.specs.All.{All}
use Rattle.theory_images.specs.Lengths.{good_blocks_lem, blocks_same, length_all}
use Rattle.theory_updates.specs.Format.{formatted_max}
use Rattle.theory_demands.specs.Words.{Holds, Began, OneOf}
use Rattle.theory_demands.specs.Tests.{Test, tested, Met, tested_met}
use Rattle.theory_demands.specs.Refusals.{format_answers, format_image}
use Rattle.theory_same_map.specs.Words.{Accepts, carried_out}
use Rattle.theory_same_map.specs.Numbers.{largest_on}

-- ---- what the map says
abbrev pub address_in : Option ℕ → ℕ
address_in None = 0
address_in (Some a) = a

abbrev pub absence : Option ℕ → ℕ
absence o = pick (is_none o) 4 0

abbrev pub answer_of : Order → List Entry → ℕ
answer_of Format map = 0
answer_of (Insert k a) map = 0
answer_of (Delete k) map = absence (find k map)
answer_of (Lookup k) map = absence (find k map)
answer_of (Limited k a allowance) map = 0

abbrev pub address_of : Order → List Entry → ℕ
address_of Format map = 0
address_of (Insert k a) map = 0
address_of (Delete k) map = 0
address_of (Lookup k) map = address_in (find k map)
address_of (Limited k a allowance) map = 0

-- an outcome on img
pub record Leaves (g : Geometry) (img : List ℕ) (answer address : ℕ) (map : List Entry) (o : Outcome) : Type 0 where
  pub answer_is : o.answer ≡ answer
  pub address_is : o.address ≡ address
  pub holds : Holds g map o.image
  pub numbers : largest_on g o.image ≤ largest_on g img + 191

abbrev pub Obeys : Geometry → Order → List Entry → List ℕ → Outcome → Type 0
Obeys g order map img o = Leaves g img (answer_of order map) (address_of order map) (carried_out order map) o

-- ---- any tree
pub tested_address : (img : List ℕ) (ts : List Test) (o : Outcome) → o.address ≡ 0 → (tested img ts o).address ≡ 0
tested_address img [] o h = h
tested_address img (t ∷ ts) o h = go t.met (tested_address img ts o h)
  where
    go : (b : Bool) → (tested img ts o).address ≡ 0 → (pick b (refused t.number img) (tested img ts o)).address ≡ 0
    go true e = refl
    go false e = e

remove_absent : (k : ℕ) (es : List Entry) → find k es ≡ None → remove k es ≡ es
unfolding find
remove_absent k [] h = refl
remove_absent k (e ∷ es) h = go (eqb e.key k) h (remove_absent k es)
  where
    go : (b : Bool) → pick b (Some e.addr) (find k es) ≡ None → (find k es ≡ None → remove k es ≡ es)
        → pick b es (e ∷ remove k es) ≡ e ∷ es
    go true d f = absurd (let z : ◌≡◌ {A = ℕ} 0 1 = cc in omega arith)
    go false d f = ap (λ (x : List Entry). e ∷ x) (f d)

module _ (g : Geometry) (img : List ℕ) (map : List Entry) (o : Outcome) (address : o.address ≡ 0) (accepts : Accepts o)
    (few : o.answer ≡ 0 → largest_on g o.image ≤ largest_on g img + 191) where
  pub put_leaves : (k a : ℕ) → OneOf o.answer (0 ∷ 3 ∷ 5 ∷ 6 ∷ 7 ∷ [])
      → (o.answer ≡ 0 → Holds g (put k a map) o.image) → Leaves g img 0 0 (put k a map) o
  put_leaves k a (inl e) done = record { answer_is = e; address_is = address; holds = done e; numbers = few e }
  put_leaves k a (inr refusal) done = absurd (accepts refusal)

  pub remove_leaves : (k : ℕ) → OneOf o.answer (0 ∷ 3 ∷ 4 ∷ 6 ∷ 7 ∷ []) → (o.answer ≡ 4 → find k map ≡ None)
      → (find k map ≡ None → (o.answer ≡ 3) ⊎ (o.answer ≡ 4)) → (o.answer ≡ 4 → o.image ≡ img) → Holds g map img
      → (o.answer ≡ 0 → Holds g (remove k map) o.image) → Leaves g img (absence (find k map)) 0 (remove k map) o
  remove_leaves k (inl e) absent gone stays old done = record {
    answer_is = e ∙ there (find k map) refl;
    address_is = address;
    holds = done e;
    numbers = few e;
  }
    where
      neither : (o.answer ≡ 3) ⊎ (o.answer ≡ 4) → ⊥
      neither (inl d) = omega (arith, d, e)
      neither (inr d) = omega (arith, d, e)

      there : (f : Option ℕ) → find k map ≡ f → 0 ≡ absence f
      there None d = absurd (neither (gone d))
      there (Some a) d = refl
  remove_leaves k (inr (inl e)) absent gone stays old done = absurd (accepts (inl e))
  remove_leaves k (inr (inr (inl e))) absent gone stays old done =
      let f = absent e in
      let i = stays e in
      record {
        answer_is = e ∙ sym (ap absence f);
        address_is = address;
        holds = subst (λ (m : List Entry). Holds g m o.image) (sym (remove_absent k map f)) (subst (Holds g map) (sym i) old);
        numbers = (let z = ap (largest_on g) i in omega (arith, z));
      }
  remove_leaves k (inr (inr (inr (inl e)))) absent gone stays old done = absurd (accepts (inr (inr (inl e))))
  remove_leaves k (inr (inr (inr (inr (inl e))))) absent gone stays old done =
      absurd (accepts (inr (inr (inr (inl e)))))
  remove_leaves k (inr (inr (inr (inr (inr e))))) absent gone stays old done = absurd e

pub found_leaves : (g : Geometry) (img : List ℕ) (map : List Entry) (k : ℕ) → Holds g map img
    → Leaves g img (absence (find k map)) (address_in (find k map)) map (answered (find k map) img)
unfolding answered
found_leaves g img map k old = go (find k map)
  where
    go : (f : Option ℕ) → Leaves g img (absence f) (address_in f) map (answered f img)
    go None = record { answer_is = refl; address_is = refl; holds = old; numbers = omega arith }
    go (Some a) = record { answer_is = refl; address_is = refl; holds = old; numbers = omega arith }

-- Format, on a blank image too
pub format_leaves : (g : Geometry) → Core g → (img : List ℕ) → good_length g img ≡ true → ((i : ℕ) → byte_at img i < 256)
    → Holds g [] (format g img).image → Leaves g img 0 0 [] (format g img)
unfolding format
format_leaves g core img good bytes new = record {
  answer_is = format_answers g img good;
  address_is = rw good refl;
  holds = new;
  numbers = (
      let b = good_blocks_lem g img good in
      let z = formatted_max g core (blocks_of g img) b.least img b.image bytes in
      let made = apply_all g (format_stores g (blocks_of g img)) img in
      let x = ap (λ n. max_seq g n made) (blocks_same g img made (length_all g (format_stores g (blocks_of g img)) img)) in
      let y = ap (largest_on g) (format_image g img good) in
      omega (arith, x, y, z));
}

-- WORN is the answer of its test alone
abbrev pub Unworn : Test → Type 0
Unworn t = t.number ≡ 3 → t.met ≡ false

pub tested_unworn : (img : List ℕ) (ts : List Test) (o : Outcome) → Began o → All Unworn ts
    → (tested img ts o).answer ≡ 3 → ⊥
tested_unworn img ts o b h e = go ts h (tested_met img 3 ts o b (omega arith) (omega arith) e)
  where
    go : (ts : List Test) → All Unworn ts → Met 3 ts → ⊥
    go [] h m = m
    go (t ∷ ts) h (inl w) = true_false t.met w.1 (h.0 w.0)
    go (t ∷ ts) h (inr m) = go ts h.1 m

pub low_unworn : (g : Geometry) (img : List ℕ) → largest_on g img ≤ g.worn → worn g (blocks_of g img) img ≡ false
unfolding worn
low_unworn g img h = le-ltb g.worn (largest_on g img) h

pub found_unworn : (o : Option ℕ) (img : List ℕ) → (answered o img).answer ≡ 3 → ⊥
unfolding answered
found_unworn None img e = omega (arith, e)
found_unworn (Some a) img e = omega (arith, e)
