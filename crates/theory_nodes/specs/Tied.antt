-- R6, in its short form: of two live nodes on one page the upper one names the page. Definitions alone; assumes nothing.
use Rattle.std.specs.Prelude.{◌≡◌, List, ◌<◌}
use Rattle.model.specs.Image.{Nodes}
use Rattle.model.specs.Tree.{Place}
use Rattle.theory_lists.specs.All.{All, Some}

-- R6: of two live nodes x and y on one page the upper one, x, has an entry that names the page
abbrev pub TiedTo : Nodes → Place → Place → Type 0
TiedTo r x y = x.page ≡ y.page → y.level < x.level → Some (λ e. e.addr ≡ x.page) (r x.page x.level)

abbrev pub Tied : Nodes → List Place → Type 0
Tied r spots = All (λ x. All (TiedTo r x) spots) spots
