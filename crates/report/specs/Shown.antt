-- A report as it crosses to C, in the words of rules. No rule stands here.
use Rattle.rules.specs.declared.ReportFields.{ReportFields}
use Rattle.report.specs.declared.crossing.TdispReport.{TdispReport}

-- the fields of a report as C has them, its number left out
abbrev pub fields_of : TdispReport → ReportFields
fields_of r = record {
  info = r.info;
  msix = r.msix;
  lnr = r.lnr;
  tph = r.tph;
  n = r.n;
  ranges = r.ranges;
  l = r.l;
  information = r.information;
}
