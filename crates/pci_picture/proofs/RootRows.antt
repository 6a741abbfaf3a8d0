-- The roots of the tree of buses, while they are drawn.
use Rattle.std.proofs.Common.{◌≡◌, ◌<◌, ◌≤◌, ◌+◌, ◌-◌, ◌&&◌, ℕ, suc, Bool, true, false, not, ltb, List, [], ◌∷◌, ◌++◌, length, take, drop, get_or, replicate, Option, None, sym, ap, subst, ◌∙◌, arith}
use Rattle.std.specs.List.{range_with_len}
use Rattle.std.specs.Option.{is_none, is_some}
use Rattle.std.proofs.lemmas.Bool.{le-ltb, lt-ltb}
use Rattle.std.proofs.lemmas.List.{append-nil, append_assoc, get_or-replicate, length-drop, length-take}
use Rattle.pci_picture.specs.Roots.{AreBusesAbove, Listed, bus_above, listed_function, listed_functions}
use Rattle.pci_picture.specs.Starts.{StandOnBus, functions_on}
use Rattle.pci_picture.specs.Trees.{AreRootRows, AreRootsWritten, AreWritten, IsTreeText, TreePlace, down, any_listed, is_tree_root, listed_on, no_bus, no_root, other_bus, root_bus, root_written}
use Rattle.pci_picture.specs.Walks.{AreMarked, WritesRoot}
use Rattle.pci_picture.specs.declared.badge.Badge.{Badge}
use Rattle.pci_picture.specs.declared.canvas.Canvas.{Canvas}
use Rattle.pci_picture.specs.declared.function.Function.{Function}
use Rattle.pci_picture.proofs.Trees.{on_listed}

-- ---- whether a bus is a root

some_listed : (functions : List Function) (begin end : ℕ) → begin ≤ end → length functions ≡ end - begin → any_listed (listed_functions functions) ≡ ltb begin end
some_listed [] begin end up long = sym (le-ltb begin end (omega (arith, up, long)))
some_listed (function ∷ functions) begin end up long = sym (lt-ltb begin end (omega (arith, up, long)))

pub root_tested : (functions : List Function) (begin end bus : ℕ) (above : List (Option ℕ)) (marks : List Bool) (before : List ℕ) → bus < 256 → StandOnBus functions bus begin end
    → AreBusesAbove (listed_functions functions) above → AreMarked marks before
    → (ltb begin end && is_none (get_or above bus None) && not (get_or marks bus false)) ≡ is_tree_root (listed_functions functions) before bus
root_tested functions begin end bus above marks before small on are marked =
    let there = ap length on.all in
    let part = length-take (end - begin) (drop begin functions) in
    let behind = length-drop begin functions in
    let within = on.inside in
    let some : any_listed (listed_on bus (listed_functions functions)) ≡ ltb begin end =
    ap any_listed (sym (on_listed functions bus)) ∙ some_listed (functions_on bus functions) begin end on.rises (omega (arith, there, part, behind, within)) in
    ap (λ b. b && is_none (get_or above bus None) && not (get_or marks bus false)) (sym some)
    ∙ ap (λ o. any_listed (listed_on bus (listed_functions functions)) && is_none o && not (get_or marks bus false)) (are bus small)
    ∙ ap (λ b. any_listed (listed_on bus (listed_functions functions)) && is_none (bus_above (listed_functions functions) bus) && not b) (marked bus small)

pub none_told : (bus : Option ℕ) (none : Bool) → is_some bus ≡ not none → none ≡ is_none bus
none_told bus true is = sym (ap not is)
none_told bus false is = sym (ap not is)

-- ---- roots below each other

roots_more : (badges : List Badge) (y end below : ℕ) (roots : List (List TreePlace)) (rows : List TreePlace) (text more : List ℕ) → AreRootsWritten badges y roots text end
    → AreWritten badges (down end 16) rows more below → AreRootsWritten badges y (roots ++ rows ∷ []) (text ++ more) (down below 8)
roots_more badges _ _ below _ rows _ more (no_root y) written =
    subst (λ t. AreRootsWritten badges y (rows ∷ []) t (down below 8)) (append-nil more) (root_written y below (down below 8) rows [] more [] written (no_root (down below 8)))
roots_more badges _ _ below _ rows _ more (root_written y under end first roots text rest is others) written =
    subst (λ t. AreRootsWritten badges y (first ∷ (roots ++ rows ∷ [])) t (down below 8)) (sym (append_assoc text rest more))
    (root_written y under (down below 8) first (roots ++ rows ∷ []) text (rest ++ more) is (roots_more badges (down under 8) end below roots rows rest more others written))

-- the roots up to a bus were drawn
pub record IsTreeUpTo (functions : List Listed) (badges : List Badge) (top bus : ℕ) (marks : List Bool) (y : ℕ) (old now : List ℕ) : Type 0 where
  pub roots : List (List TreePlace)
  pub drawn : List ℕ
  pub text : List ℕ
  pub marked : AreMarked marks drawn
  pub fills : (more : List (List TreePlace)) → AreRootRows functions drawn (range_with_len bus (256 - bus)) more
      → AreRootRows functions [] (range_with_len 0 256) (roots ++ more)
  pub written : AreRootsWritten badges top roots text y
  pub says : now ≡ old ++ text

pub tree_begins : (functions : List Listed) (badges : List Badge) (top : ℕ) (old : List ℕ) → IsTreeUpTo functions badges top 0 (replicate 256 false) top old old
tree_begins functions badges top old = record {
  roots = [];
  drawn = [];
  text = [];
  marked = λ bus small. get_or-replicate 256 bus false false small;
  fills = λ more are. are;
  written = no_root top;
  says = sym (append-nil old);
}

next_bus : (bus : ℕ) → bus < 256 → bus ∷ range_with_len (bus + 1) (256 - (bus + 1)) ≡ range_with_len bus (256 - bus)
next_bus bus small = let more : 256 - bus ≡ suc (256 - (bus + 1)) = omega (arith, small) in sym (ap (range_with_len bus) more)

module _ (functions : List Listed) (badges : List Badge) (top bus : ℕ) (marks : List Bool) (y : ℕ) (old now : List ℕ) (small : bus < 256)
    (tree : IsTreeUpTo functions badges top bus marks y old now) where
  pub tree_skips : is_tree_root functions tree.drawn bus ≡ false → IsTreeUpTo functions badges top (bus + 1) marks y old now
  tree_skips is = record {
    roots = tree.roots;
    drawn = tree.drawn;
    text = tree.text;
    marked = tree.marked;
    fills = λ more are. tree.fills more (subst (λ l. AreRootRows functions tree.drawn l more) (next_bus bus small)
        (other_bus tree.drawn bus (range_with_len (bus + 1) (256 - (bus + 1))) more is are));
    written = tree.written;
    says = tree.says;
  }

  pub tree_grows : {A : Type 0} (before after : Canvas A) (end : ℕ) (marks_now : List Bool) (words : List ℕ) → is_tree_root functions tree.drawn bus ≡ true
      → (root : WritesRoot functions badges tree.drawn bus y end marks_now before after) → words ≡ now ++ root.bus.text
      → IsTreeUpTo functions badges top (bus + 1) marks_now end old words
  tree_grows before after end marks_now words is root adds = record {
    roots = tree.roots ++ root.bus.rows ∷ [];
    drawn = root.bus.now;
    text = tree.text ++ root.bus.text;
    marked = root.bus.marked;
    fills = λ more are.
        subst (AreRootRows functions [] (range_with_len 0 256)) (sym (append_assoc tree.roots (root.bus.rows ∷ []) more))
        (tree.fills (root.bus.rows ∷ more) (subst (λ l. AreRootRows functions tree.drawn l (root.bus.rows ∷ more)) (next_bus bus small)
        (root_bus tree.drawn root.bus.now bus (range_with_len (bus + 1) (256 - (bus + 1))) root.bus.rows more is root.bus.are are)));
    written = subst (AreRootsWritten badges top (tree.roots ++ root.bus.rows ∷ []) (tree.text ++ root.bus.text)) (sym root.ends)
        (roots_more badges top y root.below tree.roots root.bus.rows tree.text root.bus.text tree.written root.bus.written);
    says = adds ∙ ap (λ l. l ++ root.bus.text) tree.says ∙ append_assoc old tree.text root.bus.text;
  }

pub tree_ends : (functions : List Listed) (badges : List Badge) (top bus : ℕ) (marks : List Bool) (y : ℕ) (old now : List ℕ) → 256 ≤ bus
    → (tree : IsTreeUpTo functions badges top bus marks y old now) → IsTreeText functions badges top tree.text y
tree_ends functions badges top bus marks y old now past tree =
    let none : 0 ≡ 256 - bus = omega (arith, past) in
    record {
      roots = tree.roots;
      are = subst (AreRootRows functions [] (range_with_len 0 256)) (append-nil tree.roots)
          (tree.fills [] (subst (λ n. AreRootRows functions tree.drawn (range_with_len bus n) []) none (no_bus tree.drawn)));
      written = tree.written;
    }
