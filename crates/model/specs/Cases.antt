-- The bench cases that document 01 marks P, as one table over the definitions, and the single statement that they all
-- hold. Assumes nothing.
use Rattle.std.specs.Prelude.{◌≡◌, refl, List, [], ◌∷◌, map, false, ℕ, zero, suc, ◌+◌, ◌-◌, length}
use Rattle.geometry.specs.declared.Entry.{Entry}
use Rattle.geometry.specs.Geometry.{small, first_slot, slots_of, half, root_slots}
use Rattle.geometry.specs.Tests.{◌&◌, bit}
use Rattle.model.specs.Image.{Chip}
use Rattle.model.specs.Tree.{halve, place, chosen, leaf, find, find_in}
use Rattle.model.specs.Edit.{path_half, side_half, gains}
use Rattle.model.specs.Update.{root_gains, too_high}
use Rattle.model.specs.Calls.{roomless}
use Rattle.model.specs.Rules.{ample}

-- n entries with the keys b, b + 10, b + 20, .. that all name page 0
abbrev pub run : ℕ → ℕ → List Entry
run b zero = []
run b (suc n) = record { key = b; addr = 0 } ∷ run (b + 10) n

-- a tree of height 5 on page 0 with every node of the path full: 32, 16, 8, 4 entries and 4 in the root
abbrev pub highest : Chip
highest = record { er = λ p. false; seq = λ p. 1; nodes = λ p l. run 10 (slots_for l); level = 4; root = 0 }
  where
    slots_for : ℕ → ℕ
    slots_for zero = 0
    slots_for (suc zero) = 32
    slots_for (suc (suc zero)) = 16
    slots_for (suc (suc (suc zero))) = 8
    slots_for (suc (suc (suc (suc l)))) = 4

pub record Case : Type 0 where
  pub given : ℕ
  pub wanted : ℕ

abbrev pub cases : List Case
cases =
    record { given = first_slot small 1; wanted = 0 }
    ∷ record { given = first_slot small 2; wanted = 32 }
    ∷ record { given = first_slot small 3; wanted = 48 }
    ∷ record { given = first_slot small 4; wanted = 56 }
    ∷ record { given = first_slot small 5; wanted = 60 }
    -- 33 rising leaf entries split 16 and 17
    ∷ record { given = length (side_half 330 (half small 1) (run 10 33)); wanted = 16 }
    ∷ record { given = length (path_half 330 (half small 1) (run 10 33)); wanted = 17 }
    -- 5 at level 4 split 2 and 3
    ∷ record { given = length (side_half 50 (half small 4) (run 10 5)); wanted = 2 }
    ∷ record { given = length (path_half 50 (half small 4) (run 10 5)); wanted = 3 }
    -- among keys 10, 20, 30 descent with 9 takes the first, with 20 the second, with 40 the third
    ∷ record { given = (chosen 9 (run 10 3)).key; wanted = 10 }
    ∷ record { given = (chosen 20 (run 10 3)).key; wanted = 20 }
    ∷ record { given = (chosen 40 (run 10 3)).key; wanted = 30 }
    -- T = 96, k = 1: L = 32 has room, L = 33 is ROOM. True of the test; by R8 no call answers so any more
    ∷ record { given = bit (roomless small (96 - 32) 1); wanted = 0 }
    ∷ record { given = bit (roomless small (96 - 33) 1); wanted = 1 }
    -- by request 11, T = 96: L = 32 keeps R8, L = 33 breaks it
    ∷ record { given = bit (ample 32 (96 - 32)); wanted = 1 }
    ∷ record { given = bit (ample 32 (96 - 33)); wanted = 0 }
    -- at height 5 with all path nodes full a new key is HEIGHT, a present key is not
    ∷ record { given = bit (too_high small highest 15); wanted = 1 }
    ∷ record { given = bit (too_high small highest 10); wanted = 0 }
    ∷ []

pub cases_hold : map (λ (c : Case). c.given) cases ≡ map (λ (c : Case). c.wanted) cases
unfolding first_slot slots_of root_slots roomless ample too_high root_gains gains leaf find find_in halve place chosen ◌&◌
cases_hold = refl
