-- Laws by which the reader's code is proved. Assumes nothing.
use Rattle.std.specs.Prelude.{ℕ, suc, ◌+◌, ◌-◌, ◌<◌, ◌≤◌, ◌≡◌, length, None, Option, Some}
use Rattle.std.proofs.Math.Path.{refl, sym, ap}
use Rattle.std.proofs.Common.{◌∙◌, arith, zero-add, add-one, length-drop, length-take-le}
use mathlib.Core.List.{List, [], ◌∷◌, ◌++◌}
use Rattle.std.proofs.Math.ListN.{take, drop}
use borrow.Author.Rules.{part_to_end}
use borrow.Author.Tests.{lt-leb, le-leb, lt-ltb, le-ltb, eq-eqb, ne_eqb}
use Rattle.geometry.specs.declared.Entry.{Entry}
use Rattle.geometry.specs.Tests.{◌&◌}
use Rattle.text_lines.specs.Lines.{pieces, fields, reach}
use Rattle.text_lines.specs.Pieces.{fields_more, fields_last}
use Rattle.text_decimals.specs.Decimals.{number_of}
use Rattle.text_carrying.specs.Carrying.{pair, record_of}
use Rattle.text_reader.specs.declared.Spot.{Spot}
use Rattle.text_reader.specs.declared.Turn.{Turn}
use Rattle.text_reader.specs.Reader.{idle, refusal, taken, record_turn, line_turn, turn_of}

-- ---- the record of a line
pub count_take : (xs : List ℕ) (n : ℕ) → n ≤ length xs → n ≡ length (take n xs)
count_take xs n h = sym (length-take-le n xs h)

module _ (line : List ℕ) (tab : ℕ) (et : tab ≡ 0 + reach 9 (drop 0 line)) where
  tab_is : tab ≡ reach 9 line
  tab_is = et ∙ zero-add (reach 9 line)

  -- no tab
  pub record_one : length line ≤ tab → None ≡ record_of (fields line)
  unfolding record_of
  record_one h = sym (ap record_of (fields_last line (let q = tab_is in omega (arith, q, h))))

  first_field : tab < length line → fields line ≡ take tab line ∷ fields (drop (tab + 1) line)
  first_field h = fields_more line (let q = tab_is in omega (arith, q, h)) ∙ rw (← tab_is, add-one) refl

  module _ (h : tab < length line) (end : ℕ) (ee : end ≡ tab + 1 + reach 9 (drop (tab + 1) line)) where
    rest_long : length (drop (tab + 1) line) ≡ length line - (tab + 1)
    rest_long = length-drop (tab + 1) line

    -- a second tab
    pub record_more : end < length line → None ≡ record_of (fields line)
    unfolding record_of
    record_more g =
        let r = drop (tab + 1) line in
        let w = rest_long in
        sym (ap record_of (first_field h ∙ ap (λ l. take tab line ∷ l) (fields_more r (omega (arith, w, ee, g))))
        ∙ three (take tab line) (take (reach 9 r) r) (drop (suc (reach 9 r)) r))
      where
        many : (k a : List ℕ) (xs : List (List ℕ)) (x : List ℕ) → record_of (k ∷ a ∷ (xs ++ (x ∷ []))) ≡ None
        many k a [] x = refl
        many k a (y ∷ ys) x = refl

        three : (k a l : List ℕ) → record_of (k ∷ a ∷ fields l) ≡ None
        three k a l = many k a (pieces 9 l).ended (pieces 9 l).rest

    module _ (last : length line ≤ end) where
      two : record_of (fields line) ≡ pair (number_of (take tab line))
          (number_of (take (length line - (tab + 1)) (drop (tab + 1) line)))
      unfolding record_of
      two =
          let r = drop (tab + 1) line in
          let w = rest_long in
          ap record_of (first_field h ∙ ap (λ l. take tab line ∷ l) (fields_last r (omega (arith, w, ee, last))))
          ∙ ap (λ (l : List ℕ). pair (number_of (take tab line)) (number_of l)) (sym (part_to_end line (tab + 1)))

      module _ (k : Option ℕ) (ek : k ≡ number_of (take tab line)) where
        pub record_key : k ≡ None → None ≡ record_of (fields line)
        unfolding pair
        record_key n = sym (two ∙ ap (λ o. pair o (number_of (take (length line - (tab + 1)) (drop (tab + 1) line)))) (sym ek ∙ n))

        module _ (v : ℕ) (ev : k ≡ Some v) (a : Option ℕ) (ea : a
            ≡ number_of (take (length line - (tab + 1)) (drop (tab + 1) line))) where
          both : record_of (fields line) ≡ pair (Some v) a
          both = two ∙ (λ i. pair ((sym ek ∙ ev) i) (sym ea i))

          pub record_addr : a ≡ None → None ≡ record_of (fields line)
          unfolding pair
          record_addr n = sym (both ∙ ap (λ x. pair (Some v) x) n)

          pub record_both : (w : ℕ) → a ≡ Some w → Some (record { key = v; addr = w })
              ≡ record_of (fields line)
          unfolding pair
          record_both w n = sym (both ∙ ap (λ x. pair (Some v) x) n)

-- ---- a record that is taken
module _ (s : Spot) (next k : ℕ) (e : Entry) (ek : k ≡ e.key) where
  pub taken_low : (r : Turn) → k < s.low → r ≡ refusal s → r ≡ taken s next e
  unfolding taken
  taken_low r h f = f ∙ rw (lt-leb s.low e.key (omega (arith, ek, h))) refl

  pub taken_is : s.low ≤ k → record {
    entry = e;
    spot = record {
      at = next;
      count = s.count + 1;
      low = k + 1;
      bad = 0;
    };
  } ≡ taken s next e
  unfolding taken
  taken_is h = rw (le-leb s.low e.key (omega (arith, ek, h)), ek) refl

-- ---- the line from a place
module _ (text : List ℕ) (s : Spot) (end : ℕ) (ee : end ≡ s.at + reach 10 (drop s.at text)) where
  pub line_open : (r : Turn) → length text ≤ end → r ≡ refusal s → r ≡ line_turn text s
  unfolding line_turn
  line_open r h f = f ∙ rw (le-ltb (s.at + reach 10 (drop s.at text)) (length text) (omega (arith, ee, h))) refl

  module _ (h : end < length text) (l : Option Entry) (el : l
      ≡ record_of (fields (take (end - s.at) (drop s.at text)))) where
    ended : line_turn text s ≡ record_turn s (end + 1) l
    unfolding line_turn
    ended =
        let q : end - s.at ≡ reach 10 (drop s.at text) = omega (arith, ee) in
        rw (lt-ltb (s.at + reach 10 (drop s.at text)) (length text) (omega (arith, ee, h)), el, ← ee, q) refl

    pub line_nothing : (r : Turn) → l ≡ None → r ≡ refusal s → r ≡ line_turn text s
    unfolding record_turn
    line_nothing r n f = f ∙ sym (ended ∙ ap (λ x. record_turn s (end + 1) x) n)

    pub line_pair : (r : Turn) (e : Entry) → l ≡ Some e → r ≡ taken s (end + 1) e → r ≡ line_turn text s
    unfolding record_turn
    line_pair r e n f = f ∙ sym (ended ∙ ap (λ x. record_turn s (end + 1) x) n)

-- ---- one turn
module _ (text : List ℕ) (s : Spot) (r : Turn) where
  pub turn_bad : (s.bad ≡ 0 → ⊥) → r ≡ idle s → r ≡ turn_of text s
  unfolding turn_of ◌&◌
  turn_bad h f = f ∙ rw (ne_eqb s.bad 0 h) refl

  pub turn_full : s.bad ≡ 0 → 4096 ≤ s.count → r ≡ idle s → r ≡ turn_of text s
  unfolding turn_of ◌&◌
  turn_full h i f = f ∙ rw (eq-eqb s.bad 0 h, le-ltb s.count 4096 i) refl

  pub turn_end : s.bad ≡ 0 → s.count < 4096 → length text ≤ s.at → r ≡ idle s → r ≡ turn_of text s
  unfolding turn_of ◌&◌
  turn_end h i j f = f ∙ rw (eq-eqb s.bad 0 h, lt-ltb s.count 4096 i, le-ltb s.at (length text) j) refl

  pub turn_line : s.bad ≡ 0 → s.count < 4096 → s.at < length text → r ≡ line_turn text s → r ≡ turn_of text s
  unfolding turn_of ◌&◌
  turn_line h i j f = f ∙ rw (eq-eqb s.bad 0 h, lt-ltb s.count 4096 i, lt-ltb s.at (length text) j) refl

pub ruleset reader_laws = (count_take, record_one, record_more, record_key, record_addr, record_both, line_open, line_nothing, line_pair, taken_low, taken_is, turn_bad, turn_full, turn_end, turn_line)
