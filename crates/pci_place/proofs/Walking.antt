-- One step of a walk along sorted items.
use Rattle.std.proofs.Common.{◌≡◌, ℕ, ◌+◌, ◌<◌, ◌≤◌, ◌⊎◌, inl, inr, List, refl, true, arith, sym, ◌∙◌, ap, subst, length, get_or, set}
use Rattle.std.proofs.lemmas.Bool.{cases_Bool, both_ways, cases_eq}
use Rattle.std.proofs.lemmas.List.{get_or_default, get_or-set_same, get_or-set_other, length-set}
use Rattle.std.proofs.lemmas.Option.{get_or_from_slice_get}
use Rattle.pci_spec.specs.Window.{WindowKind}
use Rattle.pci_spec.specs.System.{Part, Bar, Rom, Window}
use Rattle.plan_spec.specs.Plan.{same_class}
use Rattle.plan_spec.specs.Place.{start_of}
use Rattle.plan_spec.specs.Planning.Numbers.{place_at}
use Rattle.plan_spec.specs.Planning.Table.{is_placed}
use Rattle.plan_spec.proofs.Planning.Tables.{class_itself}
use Rattle.plan_spec.proofs.Planning.PlacedItems.{same_class_is}
use Rattle.pci_place.specs.declared.item.Item.{Item}
use Rattle.pci_place.specs.declared.item.Part.{Part as CodePart}
use Rattle.pci_place.specs.declared.item.Part.TheVariants as parts
use Rattle.pci_place.specs.declared.place.Places.{Places}
use Rattle.pci_place.specs.Items.{part_value, no_function, function_in}
use Rattle.pci_place.specs.Places.{first_in, HasPlaces, KeepsOthers}
use Rattle.pci_place.specs.Sorting.{SortedClass}
use Rattle.pci_place.proofs.SortedPlaces.{no_item, place, of_part, is_in, first_group, first_place, window_start, IsNext, next_place, has_item}

-- a part of a function is among the first k items
abbrev pub IsAmongFirst : WindowKind → List Item → ℕ → ℕ → Part → Type 0
IsAmongFirst c items k n part = (j : ℕ) × (j < k) × ((get_or items j no_item).function ≡ n) × (part_value c (get_or items j no_item).part ≡ part)

-- the first k items are placed, and it is known where the next one stands
pub record IsWalked {c : WindowKind} {functions start : ℕ} {items : List Item} (of : SortedClass c functions start items) (old places : List Places) (starts : List ℕ) (group next k : ℕ) : Type 0 where
  pub placed : (n : ℕ) (d : Places) (part : Part) → IsAmongFirst c items k n part → first_in (get_or places n d) part ≡ place_at of.roots of.system of.pools (function_in of.system n) part
  pub others : (n : ℕ) (d : Places) (part : Part) → (IsAmongFirst c items k n part → ⊥) → first_in (get_or places n d) part ≡ first_in (get_or old n d) part
  pub opened : (j n : ℕ) → j < k → (get_or items j no_item).part ≡ parts.Window n → get_or starts n 0 ≡ start_of of.roots of.system of.pools c n
  pub room : length starts ≡ 256
  pub next_at : k < length items → IsNext of starts group next k

cases_kind : (k j : WindowKind) → (k ≡ j) ⊎ (k ≡ j → ⊥)
cases_kind k j = elim (cases_Bool (same_class k j)) [
  | inl same ↦ inl (sym (same_class_is k j same))
  | inr other ↦ inr (λ e. both_ways (same_class k j) other (sym (ap (same_class k) e) ∙ class_itself k))
]

cases_part : (p q : Part) → (p ≡ q) ⊎ (p ≡ q → ⊥)
cases_part (Bar m) (Bar n) = elim (cases_eq m n) [
  | inl same ↦ inl (ap Bar same)
  | inr other ↦ inr (λ e. other (cc))
]
cases_part (Bar m) Rom = inr (λ e. cc)
cases_part (Bar m) (Window k) = inr (λ e. cc)
cases_part Rom (Bar n) = inr (λ e. cc)
cases_part Rom Rom = inl refl
cases_part Rom (Window k) = inr (λ e. cc)
cases_part (Window k) (Bar n) = inr (λ e. cc)
cases_part (Window k) Rom = inr (λ e. cc)
cases_part (Window k) (Window j) = elim (cases_kind k j) [
  | inl same ↦ inl (ap Window same)
  | inr other ↦ inr (λ e. other (cc))
]

-- the starts of groups after an item: what is behind a window starts where the window does, and all else where it did
pub record IsOpening (part : CodePart) (starts : List ℕ) (new : ℕ) (after : List ℕ) : Type 0 where
  pub room : length after ≡ 256
  pub at : (bus : ℕ) → ((part ≡ parts.Window bus) × (get_or after bus 0 ≡ new)) ⊎ ((part ≡ parts.Window bus → ⊥) × (get_or after bus 0 ≡ get_or starts bus 0))

pub by_window : (part : CodePart) (starts after : List ℕ) (new b n : ℕ) → length starts ≡ 256 → part ≡ parts.Window b → n ≡ b → b < 256 → after ≡ set starts n new → IsOpening part starts new after
by_window part starts after new b n room is at inside e = subst (IsOpening part starts new) (sym e) record {
  room = length-set starts n new ∙ room;
  at = λ bus. elim (cases_eq bus n) [
    | inl same ↦ inl (is ∙ ap parts.Window (sym at ∙ sym same), ap (λ m. get_or (set starts n new) m 0) same ∙ get_or-set_same starts n new 0 (omega (arith, room, inside, at)))
    | inr other ↦ inr (λ also. (let two : parts.Window b ≡ parts.Window bus = sym is ∙ also in other cc), get_or-set_other starts n bus new 0 other)
  ];
}

pub by_other : (part : CodePart) (starts after : List ℕ) (new : ℕ) → length starts ≡ 256 → ((bus : ℕ) → part ≡ parts.Window bus → ⊥) → after ≡ starts → IsOpening part starts new after
by_other part starts after new room off e = subst (IsOpening part starts new) (sym e) record { room = room; at = λ bus. inr (off bus, refl) }

module _ {c : WindowKind} {functions start : ℕ} {items : List Item} (of : SortedClass c functions start items) where
  abbrev item : ℕ → Item
  item k = get_or items k no_item

  pub walk_start : (places : List Places) (starts : List ℕ) → length starts ≡ 256 → IsWalked of places places starts 0 start 0
  walk_start places starts room = record {
    placed = λ n d part is. absurd (let below = is.1 in let impossible : ⊥ = omega (arith, below) in impossible);
    others = λ n d part none. refl;
    opened = λ j n below. absurd (let impossible : ⊥ = omega (arith, below) in impossible);
    room = room;
    next_at = λ l. record { same = λ e. sym (first_place of l); other = λ ne. absurd (ne (sym (first_group of l))) };
  }

  -- what an item asks of the table
  pub in_table : (k n : ℕ) → k < length items → n ≡ functions → (item k).function < n
  in_table k n l same =
      let within = (is_in of k l).within in
      let count = of.count in
      omega (arith, within, same, count)

  module _ (old places : List Places) (starts : List ℕ) (group next k : ℕ) (l : k < length items) (before : IsWalked of old places starts group next k)
      (new : ℕ) (here : new ≡ place of (item k)) (entry d_entry : Places) (inside : (item k).function < length places)
      (is_set : first_in entry (part_value c (item k).part) ≡ new)
      (kept : (other : Part) → (other ≡ part_value c (item k).part → ⊥) → first_in entry other ≡ first_in (get_or places (item k).function d_entry) other) where
    abbrev after : List Places
    after = set places (item k).function entry

    -- the part is the item's and stands at its place, or stands where it stood
    part_cases : (n : ℕ) (d : Places) (part : Part)
        → ((((item k).function ≡ n) × (part_value c (item k).part ≡ part)) × (first_in (get_or after n d) part ≡ place_at of.roots of.system of.pools (function_in of.system n) part))
        ⊎ ((((item k).function ≡ n) × (part_value c (item k).part ≡ part) → ⊥) × (first_in (get_or after n d) part ≡ first_in (get_or places n d) part))
    part_cases n d part = elim (cases_eq (item k).function n) [
      | inr other ↦ inr (λ is. other is.0, ap (λ (p : Places). first_in p part) (get_or-set_other places (item k).function n entry d (λ e. other (sym e))))
      | inl same ↦
          let at : first_in (get_or after n d) part ≡ first_in entry part = ap (λ (p : Places). first_in p part) (ap (λ m. get_or after m d) (sym same) ∙ get_or-set_same places (item k).function entry d inside) in
          elim (cases_part part (part_value c (item k).part)) [
            | inl one ↦ inl (
              (same, sym one),
              at ∙ ap (first_in entry) one ∙ is_set ∙ here
                  ∙ ap (λ m. place_at of.roots of.system of.pools (function_in of.system m) (part_value c (item k).part)) same
                  ∙ ap (place_at of.roots of.system of.pools (function_in of.system n)) (sym one),
            )
            | inr two ↦ inr (
              λ is. two (sym is.1),
              at ∙ kept part two ∙ ap (λ (p : Places). first_in p part) (get_or_default places (item k).function d_entry d inside)
                  ∙ ap (λ m. first_in (get_or places m d) part) same,
            )
          ]
    ]

    -- one item further
    pub walk_step : (starts_after : List ℕ) (group_after : ℕ) → IsOpening (item k).part starts new starts_after → group_after ≡ (item k).group
        → IsWalked of old after starts_after group_after (new + (item k).size) (k + 1)
    walk_step starts_after group_after opening grouped =
        let opened : (j n : ℕ) → j < k + 1 → (item j).part ≡ parts.Window n → get_or starts_after n 0 ≡ start_of of.roots of.system of.pools c n =
        λ j n below window. elim (opening.at n) [
          | inl (is, at) ↦ at ∙ here ∙ window_start of k n l is
          | inr (off, at) ↦ elim (cases_eq j k) [
            | inl same ↦ absurd (off (ap (λ m. (item m).part) (sym same) ∙ window))
            | inr other ↦ at ∙ before.opened j n (omega (arith, below, other)) window
          ]
        ] in
        record {
          placed = λ n d part (j, below, function, is). elim (part_cases n d part) [
            | inl own ↦ own.1
            | inr other ↦ elim (cases_eq j k) [
              | inl at ↦ absurd (other.0 (ap (λ m. (item m).function) (sym at) ∙ function, ap (λ m. part_value c (item m).part) (sym at) ∙ is))
              | inr earlier ↦ other.1 ∙ before.placed n d part (j, omega (arith, below, earlier), function, is)
            ]
          ];
          others = λ n d part none. elim (part_cases n d part) [
            | inl own ↦ absurd (none (k, omega arith, own.0.0, own.0.1))
            | inr other ↦ other.1 ∙ before.others n d part (λ (j, below, function, is). none (j, omega (arith, below), function, is))
          ];
          opened = opened;
          room = opening.room;
          next_at = λ more.
              subst (λ m. IsNext of starts_after group_after (m + (item k).size) (k + 1)) (sym here)
              (subst (λ g. IsNext of starts_after g (place of (item k) + (item k).size) (k + 1)) (sym grouped) (next_place of starts_after k more opened));
        }

  -- ---- behind the last item

  pub has_places : (places : List Places) → ((n : ℕ) (d : Places) (part : Part) → IsAmongFirst c items (length items) n part → first_in (get_or places n d) part ≡ place_at of.roots of.system of.pools (function_in of.system n) part)
      → HasPlaces of.roots of.system of.pools c places
  has_places places placed k f d part at there =
      placed k d part (has_item of k f part at there) ∙ ap (λ g. place_at of.roots of.system of.pools g part) (get_or_from_slice_get of.system k f no_function at)

  module _ (old places : List Places) (starts : List ℕ) (group next k : ℕ) (walked : IsWalked of old places starts group next k) where
    pub all_placed : length items ≤ k → HasPlaces of.roots of.system of.pools c places
    all_placed end = has_places places (λ n d part (j, below, function, is). walked.placed n d part (j, omega (arith, end, below), function, is))

    pub others_kept : k ≤ length items → length places ≡ length old → KeepsOthers of.system of.pools c old places
    others_kept end count = record {
      count = count;
      others = λ n f d part at off. walked.others n d part (λ (j, below, function, is).
          let l : j < length items = omega (arith, end, below) in
          let g : function_in of.system (item j).function ≡ f = ap (function_in of.system) function ∙ get_or_from_slice_get of.system n f no_function at in
          both_ways (is_placed of.system of.pools c f part) off
          (subst (λ p. is_placed of.system of.pools c f p ≡ true) is (subst (λ h. is_placed of.system of.pools c h (part_value c (item j).part) ≡ true) g (of_part of j l).placed)));
    }
