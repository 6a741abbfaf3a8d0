-- A picture is one element that is closed.
use Rattle.std.proofs.Common.{◌≡◌, ℕ, Bool, true, false, IsTrue, List, [], ◌∷◌, ◌++◌, ◌<◌, ◌^◌, refl, subst, sym, codes}
use Rattle.std.proofs.lemmas.Bool.{and_parts}
use Rattle.std.specs.Fmt.{decimal}
use Rattle.std.specs.List.{list_all}
use Rattle.pci_picture.specs.Xml.{is_plain_character, is_unquoted, IsXmlName, AreCharacters, no_character, character, AreAttributes, no_attribute, attribute, IsContent, nothing, IsDocument, element}
use Rattle.pci_picture.specs.Whole.{hatch_text, pair_text, view_value, view_box, svg_attributes, ground_text, style_text, line_text, head_text, colours_text, picture_text}
use Rattle.pci_picture.specs.declared.style.TheConstants.{STYLE, HATCH, COLOURS}
use Rattle.pci_picture.proofs.Contents.{characters_append, attributes_append, content_append, content_of, element_content, attribute_lawful}
use Rattle.pci_picture.proofs.Escapes.{decimal_characters}
use Rattle.pci_picture.proofs.Drawn.{number_lawful, empty_content, feed}

-- characters that are all allowed
all_characters : (allowed : ℕ → Bool) (cs : List ℕ) → IsTrue (list_all allowed cs) → AreCharacters allowed cs
all_characters allowed [] all = no_character
all_characters allowed (c ∷ cs) all =
    let parts = and_parts (allowed c) (list_all allowed cs) all in
    character c cs parts.0 (all_characters allowed cs parts.1)

fixed : (name value : List ℕ) → IsXmlName name → IsTrue (list_all is_unquoted value) → AreAttributes (attribute name value)
fixed name value named all = attribute_lawful name value named (all_characters is_unquoted value all)

view_lawful : (width height : ℕ) → width < 2 ^ 64 → height < 2 ^ 64 → AreAttributes (view_box width height)
unfolding view_box view_value pair_text
view_lawful width height sw sh =
    attribute_lawful (codes "viewBox") (codes "0 0 " ++ (decimal width ++ (32 ∷ decimal height))) refl
    (characters_append is_unquoted (codes "0 0 ") (decimal width ++ (32 ∷ decimal height)) (all_characters is_unquoted (codes "0 0 ") refl)
    (characters_append is_unquoted (decimal width) (32 ∷ decimal height) (decimal_characters width sw)
    (character 32 (decimal height) refl (decimal_characters height sh))))

svg_lawful : (width height : ℕ) → width < 2 ^ 64 → height < 2 ^ 64 → AreAttributes (svg_attributes width height)
unfolding svg_attributes
svg_lawful width height sw sh =
    attributes_append _ _ (fixed (codes "xmlns") (codes "http://www.w3.org/2000/svg") refl refl)
    (attributes_append _ _ (number_lawful (codes "width") width refl sw)
    (attributes_append _ _ (number_lawful (codes "height") height refl sh) (view_lawful width height sw sh)))

ground_content : (width height : ℕ) → width < 2 ^ 64 → height < 2 ^ 64 → IsContent (ground_text width height)
unfolding ground_text
ground_content width height sw sh =
    empty_content (codes "rect") _ refl
    (attributes_append _ _ (number_lawful (codes "width") width refl sw)
    (attributes_append _ _ (number_lawful (codes "height") height refl sh)
    (fixed (codes "style") (codes "fill:#fff;stroke:none") refl refl)))

hatch_content : IsContent hatch_text
unfolding hatch_text
hatch_content =
    element_content (codes "defs") [] _ refl no_attribute
    (element_content (codes "pattern") _ _ refl
    (attributes_append _ _ (fixed (codes "id") (codes "hatch") refl refl)
    (attributes_append _ _ (fixed (codes "width") (codes "6") refl refl)
    (attributes_append _ _ (fixed (codes "height") (codes "6") refl refl)
    (attributes_append _ _ (fixed (codes "patternUnits") (codes "userSpaceOnUse") refl refl)
    (fixed (codes "patternTransform") (codes "rotate(45)") refl refl)))))
    (empty_content (codes "path") _ refl
    (attributes_append _ _ (fixed (codes "d") (codes "M0 0V6") refl refl)
    (attributes_append _ _ (fixed (codes "stroke") (codes "#b00020") refl refl)
    (attributes_append _ _ (fixed (codes "stroke-width") (codes "2") refl refl)
    (fixed (codes "stroke-opacity") (codes "0.45") refl refl))))))

hatch_is : HATCH.now ≡ hatch_text
unfolding hatch_text
hatch_is = refl

hatch_line : IsContent (line_text HATCH.now)
unfolding line_text
hatch_line = content_append HATCH.now _ (subst IsContent (sym hatch_is) hatch_content) feed

style_content : IsContent (style_text STYLE.now)
unfolding style_text
style_content =
    content_append (10 ∷ []) _ feed
    (content_append _ _
    (element_content (codes "style") [] STYLE.now refl no_attribute (content_of STYLE.now (all_characters is_plain_character STYLE.now refl)))
    feed)

-- the style sheet of told ranges
abbrev colours_sheet : List ℕ
colours_sheet = codes ".told:not(.lost){fill:#f4e9a8}.held:not(.lost){fill:#d8cfc4}"

colours_are : COLOURS.now ≡ element (codes "style") [] colours_sheet ++ 10 ∷ []
colours_are = refl

colours_content : (is_told : Bool) → IsContent (colours_text is_told)
colours_content true =
    subst IsContent (sym colours_are)
    (content_append _ _
    (element_content (codes "style") [] colours_sheet refl no_attribute (content_of colours_sheet (all_characters is_plain_character colours_sheet refl)))
    feed)
colours_content false = nothing

head_content : (width height : ℕ) → width < 2 ^ 64 → height < 2 ^ 64 → IsContent (head_text STYLE.now HATCH.now width height)
unfolding head_text
head_content width height sw sh =
    content_append _ _ style_content
    (content_append _ _ hatch_line (content_append _ _ (ground_content width height sw sh) feed))

pub picture_document : (is_told : Bool) (boxes words : List ℕ) (width height : ℕ) → width < 2 ^ 64 → height < 2 ^ 64 → IsContent boxes → IsContent words
    → IsDocument (picture_text is_told boxes words width height)
picture_document is_told boxes words width height sw sh b w = record {
  name = codes "svg";
  attributes = svg_attributes width height;
  content = head_text STYLE.now HATCH.now width height ++ (colours_text is_told ++ (boxes ++ words));
  named = refl;
  lawful = svg_lawful width height sw sh;
  closed = content_append _ _ (head_content width height sw sh) (content_append _ _ (colours_content is_told) (content_append boxes words b w));
  says = refl;
}
