-- Laws for the code that writes a line of a log's answers. Assumes nothing.
use Rattle.std.specs.Prelude.{◌≡◌, List, [], ◌∷◌, ◌++◌, ℕ, ◌+◌, ◌*◌, ◌<◌, ◌≤◌, take, get_or, set}
use Rattle.std.proofs.Math.Path.{refl, sym}
use Rattle.std.proofs.Common.{◌∙◌, append_assoc, append-nil, Fits, add-one, take-suc}
use Rattle.std.specs.Int.{w64}
use native.Mathlib.Omega.{arith}
use Rattle.std.proofs.Math.ListN.{length, length-append}
use Rattle.std.proofs.lemmas.List.Edits.{sets}
use Rattle.std.proofs.Math.Seq.{take_all}
use Rattle.text_lines.specs.Pieces.{sets_append, sets_snoc}
use Rattle.text_decimals.specs.Decimals.{decimal}
use Rattle.text_decimals.specs.Writing.{decimal_long}
use Rattle.log_lines.specs.Replay.{tabbed, line_text, numbers_text}

-- ---- a line that is written
module _ (buf mid out : List ℕ) (at n r : ℕ) where
  pub field_place : r ≡ at + 1 + length (decimal n) → r ≡ at + length (9 ∷ decimal n)
  field_place e = omega arith

  pub field_most : n < 18446744073709551616 → r ≡ at + 1 + length (decimal n) → r ≤ at + 21
  field_most h e = let d = decimal_long n h in omega (arith, d, e)

  pub field_bytes : mid ≡ set buf at 9 → out ≡ sets mid (at + 1) (decimal n) → out ≡ sets buf at (9 ∷ decimal n)
  field_bytes e f = f ∙ rw (e, add-one) refl

tabbed_append : (xs ys : List ℕ) → tabbed (xs ++ ys) ≡ tabbed xs ++ tabbed ys
unfolding tabbed
tabbed_append [] ys = refl
tabbed_append (x ∷ xs) ys = rw (tabbed_append xs ys) (sym (append_assoc (9 ∷ decimal x) (tabbed xs) (tabbed ys)))

tabbed_more : (ns : List ℕ) (i : ℕ) → i < length ns
    → tabbed (take (i + 1) ns) ≡ tabbed (take i ns) ++ (9 ∷ decimal (get_or ns i 0))
unfolding tabbed
tabbed_more ns i h = rw (add-one, take-suc ns i 0 h) (tabbed_append (take i ns) (get_or ns i 0 ∷ []) ∙ rw append-nil refl)

module _ (ns buf : List ℕ) (at : ℕ) where
  pub fields_start : buf ≡ sets buf at (tabbed (take 0 ns))
  unfolding tabbed
  fields_start = refl

  pub place_starts : at ≡ at + length (tabbed (take 0 ns))
  unfolding tabbed
  place_starts = omega arith

  module _ (i end : ℕ) (e : end ≡ at + length (tabbed (take i ns))) where
    pub fields_go : (mid out : List ℕ) (x : ℕ) → i < length ns → x ≡ get_or ns i 0 → mid ≡ sets buf at (tabbed (take i ns))
        → out ≡ sets mid end (9 ∷ decimal x)
        → out ≡ sets buf at (tabbed (take (i + 1) ns))
    fields_go mid out x h q f g =
        g ∙ rw (e, f, q, tabbed_more ns i h) (sym (sets_append buf at (tabbed (take i ns)) (9 ∷ decimal (get_or ns i 0))))

    pub place_goes : (r x : ℕ) → i < length ns → x ≡ get_or ns i 0 → r ≡ end + length (9 ∷ decimal x)
        → r ≡ at + length (tabbed (take (i + 1) ns))
    place_goes r x h q g =
        let m = length-append (tabbed (take i ns)) (9 ∷ decimal (get_or ns i 0)) in
        rw (tabbed_more ns i h) (g ∙ rw q (omega (arith, m, e)))

    pub most_goes : (r : ℕ) → end ≤ at + 21 * i → r ≤ end + 21 → r ≤ at + 21 * (i + 1)
    most_goes r h k = omega arith

    pub fields_end : (mid : List ℕ) → length ns ≤ i → mid ≡ sets buf at (tabbed (take i ns)) → mid ≡ sets buf at (tabbed ns)
    fields_end mid p f = f ∙ rw (take_all i ns p) refl

    pub place_ends : length ns ≤ i → end ≡ at + length (tabbed ns)
    place_ends p = e ∙ rw (take_all i ns p) refl

pub ruleset fields_laws = (field_place, field_most, field_bytes, fields_start, place_starts, fields_go, place_goes, most_goes, fields_end, place_ends)

-- the letter, the numbers and byte 10
module _ (l : ℕ) (ns : List ℕ) (at end : ℕ) (e : end ≡ at + 1 + length (tabbed ns)) where
  pub line_place : end + 1 ≡ at + length (line_text l ns)
  unfolding line_text
  line_place = let n = length-append (l ∷ tabbed ns) (10 ∷ []) in omega (arith, n, e)

  pub line_most : end ≤ at + 1 + 84 → end + 1 ≤ at + 86
  line_most h = omega arith

  pub line_bytes : (buf one mid out : List ℕ) → one ≡ set buf at l → mid ≡ sets one (at + 1) (tabbed ns)
      → out ≡ set mid end 10 → out ≡ sets buf at (line_text l ns)
  unfolding line_text
  line_bytes buf one mid out f g h =
      let q : end ≡ at + length (l ∷ tabbed ns) = omega arith in
      h ∙ rw (g, f, q, add-one) (sets_snoc buf at (l ∷ tabbed ns) 10)

pub ruleset line_laws = (line_place, line_most, line_bytes)

-- five numbers parted by tabs, and byte 10
module _ (n : ℕ) (ns : List ℕ) (at next : ℕ) (e : next ≡ at + length (decimal n)) where
  pub numbers_next : n < 18446744073709551616 → at ≤ 8000000000000000000 → next ≤ 8500000000000000000
  numbers_next h k = let d = decimal_long n h in omega (arith, d, e)

  module _ (end : ℕ) (f : end ≡ next + length (tabbed (take 4 ns))) where
    pub numbers_fit : n < 18446744073709551616 → at ≤ 8000000000000000000 → end ≤ next + 84 → Fits w64 (end + 1)
    numbers_fit h k m = let d = decimal_long n h in record { fits = omega (arith, d, e) }

    pub numbers_place : length ns ≡ 4 → end + 1 ≡ at + length (numbers_text (n ∷ ns))
    unfolding numbers_text
    numbers_place l =
        let k = length-append (decimal n) (tabbed ns ++ (10 ∷ [])) in
        let m = length-append (tabbed ns) (10 ∷ []) in
        let q : end ≡ next + length (tabbed ns) = f ∙ rw (take_all 4 ns (omega arith)) refl in
        omega (arith, k, m, q, e)

    pub numbers_most : n < 18446744073709551616 → end ≤ next + 84 → end + 1 ≤ at + 105
    numbers_most h k = let d = decimal_long n h in omega (arith, d, e)

    pub numbers_bytes : (buf one mid out : List ℕ) → length ns ≡ 4 → one ≡ sets buf at (decimal n) → mid ≡ sets one next
        (tabbed (take 4 ns)) → out ≡ set mid end 10
        → out ≡ sets buf at (numbers_text (n ∷ ns))
    unfolding numbers_text
    numbers_bytes buf one mid out l g h k =
        let q : end ≡ next + length (tabbed ns) = f ∙ rw (take_all 4 ns (omega arith)) refl in
        k ∙ rw (h, g, take_all 4 ns (omega arith), q, e)
        (sets_snoc (sets buf at (decimal n)) (at + length (decimal n)) (tabbed ns) 10
        ∙ sym (sets_append buf at (decimal n) (tabbed ns ++ (10 ∷ []))))

pub ruleset numbers_laws = (numbers_next, numbers_fit, numbers_place, numbers_most, numbers_bytes)
