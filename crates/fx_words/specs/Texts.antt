-- The lines that a run writes. Numbers are plain decimal, names as they are, and each line ends with one line
-- feed.
use Rattle.std.specs.Prelude.{ℕ, ℤ, List, [], ◌∷◌, ◌++◌, length, codes, decimal}
use Rattle.std.specs.Fmt.{signed_decimal}
use Rattle.std.specs.List.{flat_map}
use Rattle.fx_pam.specs.declared.fault.PamField.{PamField}
use Rattle.fx_pam.specs.declared.fault.PamField.TheVariants.{Width, Height, Depth, Maxval}
use Rattle.fx_text.specs.declared.fault.GraphCode.{GraphCode}
use Rattle.fx_text.specs.declared.fault.GraphCode.TheVariants as code
use Rattle.fx_words.specs.declared.fault.FrameFault.{FrameFault}
use Rattle.fx_words.specs.declared.fault.FrameFault.TheVariants as frame
use Rattle.fx_words.specs.declared.fault.RunFault.{RunFault}
use Rattle.fx_words.specs.declared.fault.RunFault.TheVariants as run
use Rattle.fx_words.specs.declared.plan.PlanFrame.{PlanFrame}
use Rattle.fx_words.specs.declared.plan.PlanLine.{PlanLine}
use Rattle.fx_words.specs.declared.report.Report.{Report}
use Rattle.fx_words.specs.declared.report.Report.TheVariants as report

abbrev pub code_text : GraphCode → List ℕ
code_text code.NotJson = codes "G1"
code_text code.WrongForm = codes "G2"
code_text code.NumberOutOfRange = codes "G3"
code_text code.NameRepeated = codes "G4"
code_text code.UnknownEffect = codes "G5"
code_text code.ContextNotSupported = codes "G6"
code_text code.UnknownClip = codes "G7"
code_text code.ClipMissing = codes "G8"
code_text code.NoEarlierNode = codes "G9"
code_text code.UnknownParam = codes "G10"
code_text code.ParamRefused = codes "G11"
code_text code.KeysNotRising = codes "G12"
code_text code.UnknownOutput = codes "G13"
code_text code.PatternWrong = codes "G14"
code_text code.EditOfNoEffect = codes "G15"
code_text code.UnknownGroup = codes "G16"
code_text code.TooManyNodes = codes "G17"
code_text code.SlashInName = codes "G18"

-- where a graph's fault is; the whole file has no path
abbrev pub path_text : List ℕ → List ℕ
path_text [] = []
path_text (b ∷ path) = 32 ∷ b ∷ path

abbrev pub field_text : PamField → List ℕ
field_text Width = codes "WIDTH"
field_text Height = codes "HEIGHT"
field_text Depth = codes "DEPTH"
field_text Maxval = codes "MAXVAL"

-- why a frame is refused
abbrev pub frame_text : FrameFault → List ℕ
frame_text frame.NotPam = codes "P1"
frame_text (frame.HeaderWrong line) = codes "P2 " ++ decimal line
frame_text (frame.SizeOutOfRange field) = codes "P3 " ++ field_text field
frame_text (frame.Truncated wanted had) = codes "P4 " ++ (decimal wanted ++ (codes " " ++ decimal had))
frame_text (frame.SampleAboveMaxval place value) = codes "P5 " ++ (decimal place ++ (codes " " ++ decimal value))
frame_text (frame.TooLarge sum) = codes "P6 " ++ decimal sum

abbrev pub usage_text : List ℕ
usage_text =
    codes "usage: ofxr MODE GRAPH [--first N] [--last N] [--tile N] [--cache N] [--workers N] [--ahead N] [--scale N]\n"

-- a line that tells of a name
abbrev pub name_text : List ℕ → List ℕ → List ℕ
name_text what name = codes "ofxr: " ++ (what ++ (codes ": " ++ (name ++ codes "\n")))

abbrev pub graph_text : GraphCode → List ℕ → List ℕ
graph_text code path = codes "ofxr: graph: " ++ (code_text code ++ (path_text path ++ codes "\n"))

abbrev pub source_text : List ℕ → ℤ → FrameFault → List ℕ
source_text node t fault =
    codes "ofxr: frame: " ++ (node ++
    (codes " " ++ (signed_decimal t ++ (codes " " ++ (frame_text fault ++ codes "\n")))))

-- the line of a fault
abbrev pub fault_text : RunFault → List ℕ
fault_text run.Usage = usage_text
fault_text (run.Graph code path) = graph_text code path
fault_text (run.Frame node t fault) = source_text node t fault
fault_text (run.Read name) = name_text (codes "read") name
fault_text (run.Write name) = name_text (codes "write") name
fault_text run.Memory = codes "ofxr: memory\n"
fault_text run.Report = codes "ofxr: report\n"

abbrev pub tiles_text : ℕ → ℕ → ℕ → ℕ → List ℕ
tiles_text tiles void passed asked =
    codes "tiles " ++ (decimal tiles ++ (codes " void " ++ (decimal void ++ (
    codes " passed " ++ (decimal passed ++ (codes " asked " ++ (decimal asked ++ codes "\n")))))))

abbrev pub landed_text : ℕ → ℕ → List ℕ
landed_text landed hits = codes "landed " ++ (decimal landed ++ (codes " hits " ++ (decimal hits ++ codes "\n")))

abbrev pub render_text : ℕ → ℕ → ℕ → ℕ → ℕ → ℕ → ℕ → List ℕ
render_text frames tiles void passed asked landed hits =
    codes "frames " ++ (decimal frames ++
    (codes "\n" ++ (tiles_text tiles void passed asked ++ landed_text landed hits)))

abbrev pub takes_text : ℕ → ℕ → ℕ → ℕ → ℕ → ℕ → ℕ → ℕ → List ℕ
takes_text takes frames tiles void passed asked landed hits =
    codes "takes " ++ (decimal takes ++ (codes "\n" ++ render_text frames tiles void passed asked landed hits))

abbrev pub check_text : ℕ → ℕ → ℕ → List ℕ
check_text nodes frames wanted =
    codes "nodes " ++ (decimal nodes ++ (codes "\nframes " ++ (decimal frames ++ (
    codes "\nwanted " ++ (decimal wanted ++ codes "\n")))))

abbrev pub bench_text : ℕ → ℕ → ℕ → List ℕ
bench_text frames size sum =
    codes "frames " ++ (decimal frames ++ (codes "\nbytes " ++ (decimal size ++ (
    codes "\nsum " ++ (decimal sum ++ codes "\n")))))

abbrev pub migrate_text : ℕ → List ℕ
migrate_text nodes = codes "nodes " ++ (decimal nodes ++ codes "\n")

-- a region of a node at a frame: the node's place in the graph's list, the frame, and the four bounds
abbrev pub plan_line_text : PlanLine → List ℕ
plan_line_text l =
    let r = l.region in
    decimal l.node ++ (codes " " ++ (signed_decimal l.frame ++ (
    codes " " ++ (signed_decimal r.x1 ++ (codes " " ++ (signed_decimal r.y1 ++ (
    codes " " ++ (signed_decimal r.x2 ++ (codes " " ++ (signed_decimal r.y2 ++ codes "\n"))))))))))

-- a frame, how many entries it has, and a line for each
abbrev pub plan_frame_text : PlanFrame → List ℕ
plan_frame_text f =
    (codes "frame " ++ (decimal f.frame ++ (codes " entries " ++ (decimal (length f.entries) ++ codes "\n"))))
    ++ flat_map plan_line_text f.entries

-- how many frames, and the lines of each
abbrev pub plan_text : List PlanFrame → List ℕ
plan_text frames =
    (codes "frames " ++ (decimal (length frames) ++ codes "\n")) ++ flat_map plan_frame_text frames

-- the report of a run
abbrev pub report_text : Report → List ℕ
report_text (report.Render frames tiles void passed asked landed hits) =
    render_text frames tiles void passed asked landed hits
report_text (report.Check nodes frames wanted) = check_text nodes frames wanted
report_text (report.Bench frames size sum) = bench_text frames size sum
report_text (report.Migrate nodes) = migrate_text nodes
report_text (report.Takes takes frames tiles void passed asked landed hits) =
    takes_text takes frames tiles void passed asked landed hits
report_text (report.Plan frames) = plan_text frames
