-- Laws of runs. Assumes nothing.
use Rattle.std.specs.Prelude.{◌≡◌, Bool, ℕ, zero, suc, ◌+◌, ◌-◌, ◌<◌, ◌≤◌, length, take}
use Rattle.std.proofs.Math.Path.{refl}
use Rattle.std.proofs.Common.{sym, ap, ◌∙◌, arith, length-take, take_all}
use Rattle.std.proofs.Math.Bool.{true, false}
use mathlib.Core.List.{List, [], ◌∷◌, ◌++◌, append-nil}
use Rattle.std.proofs.Math.Nat.{sub-zero}
use Rattle.std.proofs.Math.Dec.{ltb}
use Rattle.std.proofs.Math.ListN.{length-append}
use Rattle.std.proofs.Math.Seq.{take-nil}
use borrow.Author.Tests.{lt-ltb, le-ltb, ltb-true, ltb-false}
use Rattle.geometry.specs.declared.Geometry.{Geometry}
use Rattle.geometry.specs.Geometry.{page_bytes}
use Rattle.geometry.specs.Tests.{pick}
use Rattle.model.specs.Bytes.{erased}
use Rattle.model.specs.Stores.{Store, program, erase, apply_store, apply_all, programs, erases}
use Rattle.chip_store.specs.declared.Budget.{Budget}
use Rattle.chip_store.specs.Careful.{careful, made_of}
use Rattle.chip_store.specs.Cautious.{careful_whole, append_whole, append_cut}
use Rattle.chip_store.specs.Run.{Ran, halt}
use Rattle.chip_store.specs.TwoStores.{program_cut}

-- ---- append
pub all_append : (g : Geometry) (xs ys : List Store) (i : List ℕ) → apply_all g (xs ++ ys) i ≡ apply_all g ys
    (apply_all g xs i)
unfolding apply_all
all_append g [] ys i = refl
all_append g (x ∷ xs) ys i = all_append g xs ys (apply_store g x i)

pub programs_append : (xs ys : List Store) → programs (xs ++ ys) ≡ programs xs + programs ys
unfolding programs
programs_append [] ys = omega arith
programs_append (program p bs ∷ xs) ys = ap (λ (n : ℕ). 1 + n) (programs_append xs ys) ∙ omega arith
programs_append (erase b ∷ xs) ys = programs_append xs ys

pub erases_append : (xs ys : List Store) → erases (xs ++ ys) ≡ erases xs + erases ys
unfolding erases
erases_append [] ys = omega arith
erases_append (program p bs ∷ xs) ys = erases_append xs ys
erases_append (erase b ∷ xs) ys = ap (λ (n : ℕ). 1 + n) (erases_append xs ys) ∙ omega arith

-- the first n of an append: those of the first list, and then as many of the second as are left
pub take_append : {A : Type 0} (n : ℕ) (xs ys : List A) → take n (xs ++ ys) ≡ take n xs ++ take (n - length xs) ys
take_append n [] ys = rw (sub-zero, take-nil n)
take_append zero (x ∷ xs) ys = let q : 0 - length (x ∷ xs) ≡ 0 = omega arith in rw q
take_append (suc n) (x ∷ xs) ys = ap (λ (l : List _). x ∷ l) (take_append n xs ys
    ∙ (let q : n - length xs ≡ suc n - suc (length xs) = omega arith in rw q))

-- what is made of an append: where the first list is not made whole, what is made of it; else that list, and what is
-- made of the second
made_first : (g : Geometry) (n : ℕ) (xs ys : List Store) (i : List ℕ) → length (made_of g xs n i) < length xs
    → made_of g (xs ++ ys) n i ≡ made_of g xs n i
made_first g n xs ys i h = go (ltb (length (careful g xs i)) (length xs)) refl
  where
    go : (t : Bool) → ltb (length (careful g xs i)) (length xs) ≡ t → made_of g (xs ++ ys) n i ≡ made_of g xs n i
    go true e = rw (append_cut g xs ys i (ltb-true _ _ e))
    go false e =
        let w : length xs ≤ length (careful g xs i) = ltb-false _ _ e in
        let q : careful g xs i ≡ xs = careful_whole g xs i w in
        let k : length (take n xs) < length xs = rw q at h in
        let l : n < length xs = omega (arith, k, length-take n xs) in
        let z : n - length xs ≡ 0 = omega arith in
        rw (append_whole g xs ys i w, q) (take_append n xs (careful g ys (apply_all g xs i))
        ∙ rw z (append-nil (take n xs)))

module _ (g : Geometry) (n : ℕ) (xs : List Store) (i : List ℕ) (h : length xs ≤ length (made_of g xs n i)) where
  made_reach : length xs ≤ n
  made_reach = omega (arith, h, length-take n (careful g xs i))

  made_careful : careful g xs i ≡ xs
  made_careful = careful_whole g xs i (omega (arith, h, length-take n (careful g xs i)))

  pub made_all : made_of g xs n i ≡ xs
  made_all = rw made_careful (take_all n xs made_reach)

  made_second : (ys : List Store) → made_of g (xs ++ ys) n i ≡ xs ++ made_of g ys (n - length xs) (apply_all g xs i)
  made_second ys =
      rw (append_whole g xs ys i (omega (arith, h, length-take n (careful g xs i))))
      (take_append n xs (careful g ys (apply_all g xs i)) ∙ rw (take_all n xs made_reach))

nothing : (t : Bool) (n : ℕ) → 0 ≡ pick t 0 (0 - n)
nothing true n = refl
nothing false n = omega arith

ltb_shift : (x m y : ℕ) → ltb (x + m) (x + y) ≡ ltb m y
ltb_shift x m y = go (ltb m y) refl
  where
    go : (t : Bool) → ltb m y ≡ t → ltb (x + m) (x + y) ≡ t
    go true e = let l : m < y = ltb-true _ _ e in lt-ltb (x + m) (x + y) (omega arith)
    go false e = let l : y ≤ m = ltb-false _ _ e in le-ltb (x + m) (x + y) (omega arith)

halts : (t : Bool) → true ≡ pick t true true
halts true = refl
halts false = refl

stay : (t : Bool) → t ≡ pick t true false
stay true = refl
stay false = refl

module _ (g : Geometry) where
  -- with nothing to do
  pub ran_none : (b : Budget) (i : List ℕ) → Ran g [] b b i i
  unfolding apply_all programs erases careful
  ran_none b i =
      let q : made_of g [] b.left i ≡ [] = take-nil {A = Store} b.left in
      let t : ltb (length (made_of g [] b.left i)) 0 ≡ false = rw q (le-ltb 0 0 (omega arith)) in
      record {
        image = rw q;
        allowance = rw t (omega arith);
        programmed = rw q (omega arith);
        erased = rw q (omega arith);
        stopped = rw t (stay b.stopped);
        total = omega arith;
      }

  -- stores of which the first is not made
  ran_refused : (ss : List Store) (b : Budget) (i : List ℕ) → 0 < length ss → made_of g ss b.left i ≡ []
      → Ran g ss b (halt b) i i
  unfolding apply_all programs erases
  ran_refused ss b i h e = record {
    image = rw e;
    allowance = rw (e, lt-ltb 0 (length ss) h);
    programmed = rw e (omega arith);
    erased = rw e (omega arith);
    stopped = rw (e, lt-ltb 0 (length ss) h) (halts b.stopped);
    total = omega arith;
  }

  -- asked for with nothing left
  pub program_refused : (p : ℕ) (bs : List ℕ) (b r : Budget) (i : List ℕ)
      → r ≡ halt b → b.left ≡ 0 → Ran g (program p bs ∷ []) b r i i
  program_refused p bs b r i er e = rw er (ran_refused (program p bs ∷ []) b i (omega arith) (rw e))

  pub erase_refused : (k : ℕ) (b r : Budget) (i : List ℕ)
      → r ≡ halt b → b.left ≡ 0 → Ran g (erase k ∷ []) b r i i
  erase_refused k b r i er e = rw er (ran_refused (erase k ∷ []) b i (omega arith) (rw e))

  -- asked for on a page that is not erased
  pub program_spared : (p : ℕ) (bs : List ℕ) (b r : Budget) (i : List ℕ) (t : Bool)
      → r ≡ halt b → t ≡ erased g i p → t ≡ false → Ran g (program p bs ∷ []) b r i i
  unfolding careful
  program_spared p bs b r i t er et f = rw er (ran_refused (program p bs ∷ []) b i (omega arith) (rw (← et, f) (take-nil {A = Store} b.left)))

  one : (s : Store) (b : Budget) (i : List ℕ) → careful g (s ∷ []) i ≡ s ∷ [] → (b.left ≡ 0 → ⊥)
      → made_of g (s ∷ []) b.left i ≡ s ∷ []
  one s b i e h = rw e (take_all b.left (s ∷ []) (omega arith))

  pub ran_program : (p : ℕ) (bs : List ℕ) (b : Budget) (i o : List ℕ) (t : Bool) → o ≡ apply_store g (program p bs) i
      → (b.left ≡ 0 → ⊥)
      → t ≡ erased g i p → t ≡ true
      → Ran g (program p (take (page_bytes g) bs) ∷ []) b
      (record { left = b.left - 1; programmed = b.programmed + 1; erased = b.erased; stopped = b.stopped }) i o
  unfolding apply_all programs erases careful
  ran_program p bs b i o t e h et f =
      let q : made_of g (program p (take (page_bytes g) bs) ∷ []) b.left i ≡ program p (take (page_bytes g) bs) ∷ [] =
      one _ b i (rw (← et, f)) h in
      let u : ltb (length (made_of g (program p (take (page_bytes g) bs) ∷ []) b.left i)) 1 ≡ false =
      rw q (le-ltb 1 1 (omega arith)) in
      record {
        image = rw q (e ∙ program_cut g p bs i);
        allowance = rw u;
        programmed = rw q;
        erased = rw q (omega arith);
        stopped = rw u (stay b.stopped);
        total = omega arith;
      }

  pub ran_erase : (k : ℕ) (b : Budget) (i o : List ℕ) → o ≡ apply_store g (erase k) i → (b.left ≡ 0 → ⊥)
      → Ran g (erase k ∷ []) b (record {
        left = b.left - 1;
        programmed = b.programmed;
        erased = b.erased + 1;
        stopped = b.stopped;
      }) i o
  unfolding apply_all programs erases careful
  ran_erase k b i o e h =
      let q : made_of g (erase k ∷ []) b.left i ≡ erase k ∷ [] = one _ b i refl h in
      let u : ltb (length (made_of g (erase k ∷ []) b.left i)) 1 ≡ false = rw q (le-ltb 1 1 (omega arith)) in
      record {
        image = rw q e;
        allowance = rw u;
        programmed = rw q (omega arith);
        erased = rw q;
        stopped = rw u (stay b.stopped);
        total = omega arith;
      }

  -- after a run that has nothing left and was stopped no store is made
  ran_nothing : (ss : List Store) (r : Budget) (o : List ℕ) → r.left ≡ 0 → r.stopped ≡ true → Ran g ss r r o o
  unfolding apply_all programs erases
  ran_nothing ss r o z h = record {
    image = rw z;
    allowance = rw z (nothing (ltb 0 (length ss)) (length ss));
    programmed = rw z (omega arith);
    erased = rw z (omega arith);
    stopped = rw h;
    total = omega arith;
  }

  -- one run after another: the first was not made whole
  then_first : (xs ys : List Store) (b r s : Budget) (i m o : List ℕ) → Ran g xs b r i m → Ran g ys r s m o
      → length (made_of g xs b.left i) < length xs → Ran g (xs ++ ys) b s i o
  unfolding apply_all programs erases
  then_first xs ys b r s i m o first second h =
      let q : made_of g (xs ++ ys) b.left i ≡ made_of g xs b.left i = made_first g b.left xs ys i h in
      let t : ltb (length (made_of g xs b.left i)) (length xs) ≡ true = lt-ltb _ _ h in
      let u : ltb (length (made_of g xs b.left i)) (length (xs ++ ys)) ≡ true =
      lt-ltb (length (made_of g xs b.left i)) (length (xs ++ ys)) (omega (arith, h, length-append xs ys)) in
      let z : r.left ≡ 0 = first.allowance ∙ rw t in
      let d : r.stopped ≡ true = first.stopped ∙ rw t (sym (halts b.stopped)) in
      let w : made_of g ys r.left m ≡ [] = rw z in
      record {
        image = rw q (second.image ∙ rw w first.image);
        allowance = rw (q, u) (second.allowance ∙ rw (w, z) (sym (nothing (ltb 0 (length ys)) (length ys))));
        programmed = rw q (second.programmed ∙ rw w (omega (arith, first.programmed)));
        erased = rw q (second.erased ∙ rw w (omega (arith, first.erased)));
        stopped = rw (q, u) (second.stopped ∙ rw d (halts b.stopped));
        total = omega (arith, first.total, second.total);
      }

  -- it was made whole
  then_second : (xs ys : List Store) (b r s : Budget) (i m o : List ℕ) → Ran g xs b r i m → Ran g ys r s m o
      → length xs ≤ length (made_of g xs b.left i) → Ran g (xs ++ ys) b s i o
  then_second xs ys b r s i m o first second h =
      let a : made_of g xs b.left i ≡ xs = made_all g b.left xs i h in
      let t : ltb (length (made_of g xs b.left i)) (length xs) ≡ false = le-ltb _ _ h in
      let z : r.left ≡ b.left - length xs = first.allowance ∙ rw t in
      let d : r.stopped ≡ b.stopped = first.stopped ∙ rw t (sym (stay b.stopped)) in
      let e : m ≡ apply_all g xs i = rw a at first.image in
      let q : made_of g (xs ++ ys) b.left i ≡ xs ++ made_of g ys r.left m =
      rw (z, e) (made_second g b.left xs i h ys) in
      let u : ltb (length (made_of g (xs ++ ys) b.left i)) (length (xs ++ ys)) ≡ ltb (length (made_of g ys r.left m)) (length ys) =
      rw (q, length-append xs (made_of g ys r.left m), length-append xs ys) (ltb_shift (length xs) (length (made_of g ys r.left m)) (length ys)) in
      record {
        image = rw (q, all_append, ← e) second.image;
        allowance = rw u (second.allowance ∙ rw (z, length-append)
            (let y : b.left - length xs - length ys ≡ b.left - (length xs + length ys) = omega arith in rw y));
        programmed = rw (q, programs_append) (omega (arith, second.programmed, rw a at first.programmed));
        erased = rw (q, erases_append) (omega (arith, second.erased, rw a at first.erased));
        stopped = rw u (second.stopped ∙ rw d);
        total = omega (arith, first.total, second.total);
      }

  -- one run after another
  pub ran_then : (xs ys : List Store) (b r s : Budget) (i m o : List ℕ) → Ran g xs b r i m → Ran g ys r s m o
      → Ran g (xs ++ ys) b s i o
  ran_then xs ys b r s i m o first second = go (ltb (length (made_of g xs b.left i)) (length xs)) refl
    where
      go : (t : Bool) → ltb (length (made_of g xs b.left i)) (length xs) ≡ t → Ran g (xs ++ ys) b s i o
      go true e = then_first xs ys b r s i m o first second (ltb-true _ _ e)
      go false e = then_second xs ys b r s i m o first second (ltb-false _ _ e)

  -- whether a run that began unstopped was stopped
  short : (ss : List Store) (b r : Budget) (i o : List ℕ) → Ran g ss b r i o → b.stopped ≡ false
      → r.stopped ≡ ltb (length (made_of g ss b.left i)) (length ss)
  short ss b r i o run e = run.stopped ∙ rw e

  -- a run that was stopped is a run of any longer list
  pub ran_halted : (xs ys : List Store) (b r : Budget) (i o : List ℕ) → Ran g xs b r i o → b.stopped ≡ false
      → r.stopped ≡ true → Ran g (xs ++ ys) b r i o
  ran_halted xs ys b r i o run e h =
      let z : r.left ≡ 0 = run.allowance ∙ rw (sym (short xs b r i o run e) ∙ h) in
      ran_then xs ys b r r i o o run (ran_nothing ys r o z h)

  -- in a run that was not stopped all the stores were made
  pub ran_whole : (ss : List Store) (b r : Budget) (i o : List ℕ) → Ran g ss b r i o → b.stopped ≡ false
      → r.stopped ≡ false
      → made_of g ss b.left i ≡ ss
  ran_whole ss b r i o run e h = made_all g b.left ss i (ltb-false _ _ (sym (short ss b r i o run e) ∙ h))

  pub ran_full : (ss : List Store) (b r : Budget) (i o : List ℕ) → Ran g ss b r i o → b.stopped ≡ false
      → r.stopped ≡ false → o ≡ apply_all g ss i
  ran_full ss b r i o run e h = rw (ran_whole ss b r i o run e h) at run.image

  pub ran_made : (s : Store) (b r : Budget) (i o : List ℕ) → Ran g (s ∷ []) b r i o → b.stopped ≡ false
      → r.stopped ≡ false → o ≡ apply_store g s i
  unfolding apply_all
  ran_made s b r i o run e h = ran_full (s ∷ []) b r i o run e h

pub ruleset run_laws = (ran_none, program_refused, program_spared, erase_refused, ran_program, ran_erase)
