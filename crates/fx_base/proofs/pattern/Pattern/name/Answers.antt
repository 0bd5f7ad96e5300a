use Rattle.std.proofs.Common.{arith}
use Rattle.fx_base.proofs.PatternLaws.{name_of-apart}
use Rattle.fx_base.proofs.pattern.Pattern.name.Goals as goal

pub returns-clause-apart : goal.returns-clause-apart
returns-clause-apart c other small one same = name_of-apart c.args.self.now other c.args.frame one (omega arith) (omega arith) same

pub returns-in_err-name_text-clause-apart : goal.returns-in_err-name_text-clause-apart
returns-in_err-name_text-clause-apart c other small one same = name_of-apart c.args.self.now other c.args.frame one (omega arith) (omega arith) same
