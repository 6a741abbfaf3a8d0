-- The whole text of a picture.
use Rattle.std.specs.Prelude.{ℕ, Bool, List, [], ◌∷◌, ◌++◌, codes, if◌then◌else◌}
use Rattle.std.specs.Fmt.{decimal}
use Rattle.pci_picture.specs.Xml.{attribute, element, empty_element, IsDocument}
use Rattle.pci_picture.specs.Elements.{number_attribute}
use Rattle.pci_picture.specs.declared.style.TheConstants.{STYLE, HATCH, COLOURS}

-- the hatching of shared addresses
unfoldable pub hatch_text : List ℕ
hatch_text =
    element (codes "defs") []
    (element (codes "pattern")
    (attribute (codes "id") (codes "hatch")
    ++ (attribute (codes "width") (codes "6")
    ++ (attribute (codes "height") (codes "6")
    ++ (attribute (codes "patternUnits") (codes "userSpaceOnUse")
    ++ attribute (codes "patternTransform") (codes "rotate(45)")))))
    (empty_element (codes "path")
    (attribute (codes "d") (codes "M0 0V6")
    ++ (attribute (codes "stroke") (codes "#b00020")
    ++ (attribute (codes "stroke-width") (codes "2")
    ++ attribute (codes "stroke-opacity") (codes "0.45"))))))

unfoldable pub pair_text : ℕ → ℕ → List ℕ
pair_text width height = decimal width ++ (32 ∷ decimal height)

unfoldable pub view_value : ℕ → ℕ → List ℕ
view_value width height = codes "0 0 " ++ pair_text width height

unfoldable pub view_box : ℕ → ℕ → List ℕ
view_box width height =
    attribute (codes "viewBox") (view_value width height)

unfoldable pub svg_attributes : ℕ → ℕ → List ℕ
svg_attributes width height =
    attribute (codes "xmlns") (codes "http://www.w3.org/2000/svg")
    ++ (number_attribute (codes "width") width
    ++ (number_attribute (codes "height") height ++ view_box width height))

-- the white background
unfoldable pub ground_text : ℕ → ℕ → List ℕ
ground_text width height =
    empty_element (codes "rect")
    (number_attribute (codes "width") width
    ++ (number_attribute (codes "height") height
    ++ attribute (codes "style") (codes "fill:#fff;stroke:none")))

-- a style sheet, and a text with a line feed
unfoldable pub style_text : List ℕ → List ℕ
style_text style = 10 ∷ (element (codes "style") [] style ++ 10 ∷ [])

unfoldable pub line_text : List ℕ → List ℕ
line_text text = text ++ 10 ∷ []

-- what stands before the boxes, in its order: the style sheet, the hatching and the background
unfoldable pub head_text : List ℕ → List ℕ → ℕ → ℕ → List ℕ
head_text style hatch width height = style_text style ++ (line_text hatch ++ (ground_text width height ++ 10 ∷ []))

-- the colours of told ranges, where there are any
abbrev pub colours_text : Bool → List ℕ
colours_text is_told = if is_told then COLOURS.now else []

-- the picture of some boxes and words, which has told ranges or none
abbrev pub picture_text : Bool → List ℕ → List ℕ → ℕ → ℕ → List ℕ
picture_text is_told boxes words width height =
    element (codes "svg") (svg_attributes width height)
    (head_text STYLE.now HATCH.now width height ++ (colours_text is_told ++ (boxes ++ words)))
    ++ 10 ∷ []

-- a picture is one element, with every text in it escaped and every element in it closed
abbrev pub IsPictureText : List ℕ → Type 0
IsPictureText text = ∥ IsDocument text ∥₁
