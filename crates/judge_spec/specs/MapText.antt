-- The text of a map.
use Rattle.std.specs.Prelude.{◌≡◌, ℕ, zero, suc, Bool, true, false, if◌then◌else◌, List, [], ◌∷◌, ◌++◌, map, codes}
use Rattle.std.specs.List.{flat_map}
use Rattle.pci_spec.specs.Slot.{Slot}
use Rattle.pci_spec.specs.Text.{hex_byte, slot_text}
use Rattle.pci_spec.specs.System.{System, Space, Io, Memory, Part, Bar, Rom, Window, Function}
use Rattle.pci_spec.specs.Line.{space_text, field, byte_field, slot_field}
use Rattle.pci_spec.specs.Decoded.{Range, DecodedBar}
use Rattle.pci_spec.specs.Listing.{words, range_text, kind_space}
use Rattle.pci_spec.specs.Why.{amount_text, address_count, off_bars}
use Rattle.judge_spec.specs.Given.{Given}
use Rattle.judge_spec.specs.ToldClaims.{Told}
use Rattle.judge_spec.specs.ToldLine.{register_text}
use Rattle.judge_spec.specs.ToldRegion.{ToldRegion, told_extent, off_ranges, mark_word, name_words}
use Rattle.judge_spec.specs.Why.{isa_words_of}
use Rattle.judge_spec.specs.Regions.{MapRegion, Own, OfLine}
use Rattle.judge_spec.specs.Lines.{Lines, End, Free, Sits}
use Rattle.judge_spec.specs.Map.{MapTaking, MapSpace, MapRoot, Map, IsMap}

-- two spaces for each window around a line, and for the heading above
unfoldable pub indent : ℕ → List ℕ
indent zero = []
indent (suc depth) = 32 ∷ 32 ∷ indent depth

abbrev pub part_name : Part → Bool → List ℕ
part_name (Bar n) true = codes "bar pref"
part_name (Bar n) false = codes "bar"
part_name Rom prefetchable = codes "rom"
part_name (Window kind) prefetchable = codes "window"

-- first and last address, how many they are, and what they are
abbrev pub extent_line : ℕ → Space → Range → List (List ℕ) → List ℕ
extent_line depth space r what =
    indent depth ++ (range_text space r ++ words (amount_text (address_count r) ∷ what))

-- `held`, or `told`
abbrev pub told_part_name : ToldRegion → List ℕ
told_part_name x = mark_word x.told.mark ++ (if x.told.prefetchable then codes " pref" else [])

-- the line of a told range
abbrev pub map_told_line : ℕ → ToldRegion → List ℕ
map_told_line depth x =
    extent_line depth x.told.space (told_extent x.told)
    (told_part_name x ∷ slot_text x.told.slot ∷ register_text x.register ∷ name_words x.told.name)

abbrev pub map_region_line : Given → ℕ → MapRegion → List ℕ
map_region_line given depth (OfLine x) = map_told_line depth x
map_region_line given depth (Own q) =
    extent_line depth q.space q.range
    (part_name q.part q.prefetchable ∷ slot_text q.slot ∷ hex_byte q.register
    ∷ isa_words_of given q.part q.space q.slot)

abbrev pub free_line : ℕ → Space → Range → List ℕ
free_line depth space r = extent_line depth space r (codes "free" ∷ [])

-- what is inside a region stands behind its line, two spaces deeper
unfoldable pub lines_text : Given → ℕ → Space → Lines → List ℕ
lines_text given depth space End = []
lines_text given depth space (Free r rest) =
    free_line depth space r ++ lines_text given depth space rest
lines_text given depth space (Sits q inside rest) =
    map_region_line given depth q
    ++ (lines_text given (suc depth) space inside ++ lines_text given depth space rest)

-- ---- root buses

abbrev pub bus_heading : ℕ → Space → List ℕ
bus_heading bus space = codes "bus" ++ (byte_field bus ++ (field (space_text space) ++ 10 ∷ []))

abbrev pub taking_heading : Slot → List ℕ
taking_heading slot = codes "  unclaimed" ++ (slot_field slot ++ 10 ∷ [])

-- what a bridge takes stands below its slot
abbrev pub taking_text : Given → Space → MapTaking → List ℕ
taking_text given space t = taking_heading t.slot ++ lines_text given 2 space t.lines

-- the lines of a root bus, with those of what bridges take behind them
abbrev pub lines_below : Given → Space → MapSpace → List ℕ
lines_below given space x =
    lines_text given 1 space x.lines ++ flat_map (taking_text given space) x.taken

-- whether a space has no line
abbrev pub is_without_lines : Lines → List MapTaking → Bool
is_without_lines End [] = true
is_without_lines End (t ∷ ts) = false
is_without_lines (Free r rest) ts = false
is_without_lines (Sits q inside rest) ts = false

-- where there are lines they stand below a heading
abbrev pub space_lines : Given → ℕ → Space → MapSpace → List ℕ
space_lines given bus space x =
    if is_without_lines x.lines x.taken then []
    else bus_heading bus space ++ lines_below given space x

abbrev pub root_text : Given → MapRoot → List ℕ
root_text given root =
    space_lines given root.bus Io root.io ++ space_lines given root.bus Memory root.memory

-- ---- what is out of place, what isn't reached, and what is off

-- some lines below a heading, where there are any
abbrev pub under_heading : List ℕ → List (List ℕ) → List ℕ
under_heading heading [] = []
under_heading heading (line ∷ lines) = heading ++ (10 ∷ flat_map (λ text. text) (line ∷ lines))

abbrev pub outside_text : Given → List MapRegion → List ℕ
outside_text given qs = under_heading (codes "outside") (map (map_region_line given 1) qs)

abbrev pub unreached_text : Given → List MapRegion → List ℕ
unreached_text given qs = under_heading (codes "unreached") (map (map_region_line given 1) qs)

-- the line of an implemented BAR
abbrev pub map_off_line : Slot → DecodedBar → List ℕ
map_off_line slot b =
    extent_line 1 (kind_space b.kind) b.range
    (part_name (Bar 0) b.prefetchable ∷ slot_text slot ∷ hex_byte b.register ∷ [])

-- those of a function whose space its Command doesn't enable
abbrev pub map_off_bars_of : Function → List (List ℕ)
map_off_bars_of f = map (map_off_line f.slot) (off_bars f)

-- and its told ranges that aren't on
abbrev pub map_off_lines_of : Told → System → Function → List (List ℕ)
map_off_lines_of told s f =
    map_off_bars_of f ++ map (map_told_line 1) (off_ranges told s f.slot)

abbrev pub map_off_text : Told → System → List ℕ
map_off_text told s = under_heading (codes "off") (flat_map (map_off_lines_of told s) s)

-- ---- the whole text

abbrev pub map_text_of : Told → Given → Map → System → List ℕ
map_text_of told given m s =
    flat_map (root_text given) m.roots
    ++ (outside_text given m.outside ++ (unreached_text given m.unreached ++ map_off_text told s))

pub record IsMapText (told : Told) (given : Given) (roots : List ℕ) (s : System)
    (text : List ℕ) : Type 0 where
  pub m : Map
  pub is : IsMap told given roots s m
  pub says : text ≡ map_text_of told given m s
