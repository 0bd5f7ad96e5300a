-- The text of the graph that is made of a number: a source, nine effects one behind the other, and a merge of the
-- last with the source.
use Rattle.std.specs.Prelude.{ℕ, zero, suc, ◌+◌, ◌-◌, ◌*◌, ◌/◌, ◌%◌, ◌==◌, ◌++◌, nat_lt, List, [], codes, decimal, if◌then◌else◌}
use Rattle.fx_bench.specs.Generator.{draw}

-- a text in quotes
abbrev pub quoted : List ℕ → List ℕ
quoted text = codes "\"" ++ (text ++ codes "\"")

-- halves from 0 on, with a point
abbrev pub halves : ℕ → List ℕ
halves h = decimal (h / 2) ++ (if h % 2 == 0 then codes ".0" else codes ".5")

-- halves from -16 to 16, counted from 0
abbrev pub signed_halves : ℕ → List ℕ
signed_halves h = if nat_lt h 16 then codes "-" ++ halves (16 - h) else halves (h - 16)

-- which effect
abbrev pub effect_name : ℕ → List ℕ
effect_name kind =
    if kind == 0 then codes "invert" else
    if kind == 1 then codes "boxblur" else
    if kind == 2 then codes "erode" else
    if kind == 3 then codes "translate" else
    if kind == 4 then codes "frameblend" else
    if kind == 5 then codes "echo" else
    if kind == 6 then codes "gain" else codes "saturation"

abbrev pub radius_param : ℕ → List ℕ
radius_param radius = codes "\"radius\":" ++ decimal radius

-- a parameter of 0 to 4 halves
abbrev pub halves_param : List ℕ → ℕ → List ℕ
halves_param name q = quoted name ++ (codes ":" ++ quoted (halves (q % 5)))

-- its parameters by a draw, as members of an object
abbrev pub params : ℕ → ℕ → List ℕ
params kind q =
    if kind == 1 then codes "\"rx\":" ++ (decimal (q % 9) ++ (codes ",\"ry\":" ++ decimal (q % 5))) else
    if kind == 2 then radius_param (q % 4) else
    if kind == 3 then codes "\"dx\":" ++ (quoted (signed_halves (q % 33)) ++ codes ",\"dy\":0") else
    if kind == 4 then radius_param (q % 3) else
    if kind == 5 then codes "\"count\":" ++ (decimal (q % 3) ++ codes ",\"gap\":1") else
    if kind == 6 then halves_param (codes "gain") q else halves_param (codes "amount") q

-- an invert has none, and no such member
abbrev pub params_member : ℕ → ℕ → List ℕ
params_member kind q = if kind == 0 then [] else codes ",\"params\":{" ++ (params kind q ++ codes "}")

-- node k of an effect, over the node before it
abbrev pub node_with : ℕ → List ℕ → List ℕ → List ℕ
node_with k effect member =
    codes ",{\"clips\":{\"Source\":\"n" ++
    (decimal (k - 1) ++ (codes "\"},\"effect\":\"" ++ (effect ++
    (codes "\",\"name\":\"n" ++ (decimal k ++ (codes "\"" ++ (member ++ codes "}")))))))

-- the same by two draws
abbrev pub node_text : ℕ → ℕ → ℕ → List ℕ
node_text k p q = node_with k (effect_name (p % 8)) (params_member (p % 8) q)

-- the first k nodes behind the source
unfoldable pub nodes_text : ℕ → ℕ → List ℕ
nodes_text number zero = []
nodes_text number (suc k) =
    nodes_text number k ++ node_text (k + 1) (draw number (2 * k + 1)) (draw number (2 * k + 2))

abbrev pub operation : ℕ → List ℕ
operation o =
    if o == 0 then codes "over" else
    if o == 1 then codes "plus" else
    if o == 2 then codes "multiply" else
    if o == 3 then codes "screen" else
    if o == 4 then codes "min" else
    if o == 5 then codes "max" else codes "minus"

-- the whole: members in byte order, each that isn't at its default
abbrev pub graph_with : List ℕ → List ℕ → List ℕ
graph_with nodes operation =
    codes "{\"nodes\":[{\"first\":0,\"last\":3,\"name\":\"n0\",\"outside\":\"hold\",\"source\":\"in#.pam\"}" ++
    (nodes ++ (codes ",{\"clips\":{\"A\":\"n9\",\"B\":\"n0\"},\"effect\":\"merge\",\"name\":\"n10\"" ++
    (codes ",\"params\":{\"operation\":\"" ++ (operation ++
    (codes "\"}}],\"ofxr\":1,\"output\":{\"file\":\"out#.pam\",\"format\":\"RGB_ALPHA\",\"node\":\"n10\"}" ++
    (codes ",\"project\":{\"components\":\"RGBA\",\"depth\":\"byte\",\"height\":240,\"width\":320}" ++
    codes ",\"range\":{\"first\":0,\"last\":3}}"))))))

abbrev pub graph_text : ℕ → List ℕ
graph_text number = graph_with (nodes_text number 9) (operation (draw number 19 % 7))
