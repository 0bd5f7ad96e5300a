use Rattle.std.proofs.Common.{subst, string_bytes}
use Rattle.std.specs.Str.{IsUtf8}
use Rattle.serde_json.specs.View.{view}
use Rattle.fx_text.proofs.MigratedLaws.{reads_text}
use Rattle.fx_text.proofs.migrate.text_of.Goals as goal

pub returns : goal.returns
returns c =
    let told = c.in_ok-text.ensures in
    record {
      compact = told.text;
      order = told.order;
      reads = reads_text (string_bytes c.in_ok-text.text) (view c.args.value.now)
          (subst IsUtf8 c.as_str-text.ensures.value c.as_str-text.utf8) (told.reads_back c.requires);
    }
