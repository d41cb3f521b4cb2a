use Rattle.std.proofs.Common.{rules}
use Rattle.report.proofs.Defaulted.{unwrapped}
use Rattle.report.proofs.crossing.TdispReportFromResultReportFieldsReportRefusal.from.Goals as goal

pub returns : goal.returns
returns c = (search rules, search unwrapped)
